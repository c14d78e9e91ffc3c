mod Isolated

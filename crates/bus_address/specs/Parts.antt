-- Addresses and their parts as plain data, each text and each string of bytes as the list of its bytes.
use Rattle.std.specs.Prelude.{ℕ, List, Option}
use Rattle.bus_address.specs.declared.tcp.TcpTransportFamily.{TcpTransportFamily}

-- what a TCP address says (D-Bus specification, TCP Sockets and Nonce-authenticated TCP Sockets)
pub record TcpParts : Type 0 where
  pub host : List ℕ
  pub bind : Option (List ℕ)
  pub port : ℕ
  pub family : Option TcpTransportFamily
  pub nonce_file : Option (List ℕ)

-- a program that is started to talk to it (D-Bus specification, Executed Subprocesses on Unix)
pub record ProgramParts : Type 0 where
  pub path : List ℕ
  pub arg0 : Option (List ℕ)
  pub args : List (List ℕ)

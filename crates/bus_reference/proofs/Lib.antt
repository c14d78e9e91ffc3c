mod LineLemmas
mod AskLemmas
mod SaidLemmas
mod ArgLemmas

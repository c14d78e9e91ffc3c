pub mod GrammarLemmas

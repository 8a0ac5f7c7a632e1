pub mod EachLemmas
pub mod PartLemmas
pub mod SymbolLemmas

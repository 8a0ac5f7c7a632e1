pub mod LengthLemmas
pub mod NameLemmas
pub mod RunLemmas
pub mod DefinedLemmas
pub mod SymbolLemmas
pub mod ListableLemmas
pub mod LinesLemmas
pub mod FitLemmas

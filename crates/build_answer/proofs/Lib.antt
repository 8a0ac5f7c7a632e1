pub mod ListLemmas
pub mod TwiceLemmas
pub mod NameLemmas
pub mod CodeLemmas
pub mod CauseLemmas

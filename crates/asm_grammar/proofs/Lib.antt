pub mod Repeats
pub mod Operations
pub mod TextLemmas
pub mod Listed
pub mod NameLemmas

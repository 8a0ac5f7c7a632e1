mod NumberLemmas
mod NameSetLemmas
pub mod RefusalLemmas
mod Examples

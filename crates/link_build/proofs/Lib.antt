pub mod PlaceLemmas
pub mod FunctionLemmas
pub mod EntryLemmas
pub mod RefusalLemmas

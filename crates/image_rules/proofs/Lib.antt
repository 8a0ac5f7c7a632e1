pub mod AroundLemmas
pub mod FunctionLemmas
pub mod RefusalLemmas
pub mod PlacedLemmas
pub mod ModelLemmas

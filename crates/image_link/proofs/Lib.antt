pub mod NumberLemmas
pub mod CodeLemmas
pub mod AssemblyLemmas
pub mod RefusalLemmas
pub mod StandingLemmas
pub mod WritingLemmas

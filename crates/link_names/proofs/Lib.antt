mod Examples
pub mod EntryLemmas
pub mod KeyLemmas
pub mod AddingLemmas
pub mod EachLemmas

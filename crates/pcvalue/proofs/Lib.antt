mod TableLemmas
pub mod ValueLemmas
pub mod WritingLemmas
pub mod LeastLemmas
mod LeftLemmas
mod CoverLemmas
mod SpreadLemmas
mod PushLemmas
mod Examples

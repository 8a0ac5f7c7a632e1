pub mod StandsLemmas
pub mod JoinedLemmas
pub mod PushedLemmas
mod Examples

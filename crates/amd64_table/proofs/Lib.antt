pub mod MoveLemmas
pub mod RegisterLemmas
pub mod NextLemmas
pub mod BoundLemmas
pub mod StepLemmas
pub mod LongLemmas

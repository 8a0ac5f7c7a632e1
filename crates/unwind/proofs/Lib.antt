pub mod CaseLemmas
pub mod FamilyLemmas
pub mod SpanLemmas
pub mod StretchLemmas
pub mod PlaceLemmas
pub mod CallLemmas
pub mod ReachLemmas
pub mod WalkLemmas
mod Examples

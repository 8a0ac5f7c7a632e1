pub mod AddedLemmas
pub mod PartLemmas
pub mod LineLemmas
pub mod ReadyLemmas
pub mod DepthLemmas
pub mod WholeLemmas
pub mod AstrayLemmas
pub mod PositionLemmas

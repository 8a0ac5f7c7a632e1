pub mod AroundLemmas
pub mod ListLemmas
pub mod PlaceLemmas
pub mod StandingLemmas
pub mod AstrayLemmas

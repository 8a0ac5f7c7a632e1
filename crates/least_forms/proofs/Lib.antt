pub mod PlaceLemmas
pub mod ReachLemmas
pub mod LeastLemmas
pub mod DropLemmas
pub mod GrowLemmas
pub mod LoopLemmas

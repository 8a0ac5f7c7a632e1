pub mod DepthLemmas
pub mod PlaceLemmas
pub mod LinkedLemmas
pub mod TellLemmas
pub mod AllLemmas

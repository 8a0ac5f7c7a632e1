pub mod SizeLemmas
pub mod PlacedLemmas
pub mod TellLemmas
pub mod PaddedLemmas
mod Examples

pub mod PlaceLemmas
pub mod AddressLemmas
mod KeyLemmas
mod Examples

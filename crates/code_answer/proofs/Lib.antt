pub mod JoinedLemmas
pub mod SameLemmas
pub mod OneLemmas
pub mod FarLemmas
pub mod PlaceLemmas

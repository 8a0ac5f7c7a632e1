mod Examples
pub mod RawLemmas
pub mod ReadingLemmas
mod ListingLemmas

pub mod BitLemmas
pub mod BucketLemmas
mod Examples

pub mod Bits
pub mod Buckets

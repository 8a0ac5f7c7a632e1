pub mod Sizes
pub mod Plan
pub mod Addresses

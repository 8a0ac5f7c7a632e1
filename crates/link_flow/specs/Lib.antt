pub mod Around
pub mod Codes
pub mod Named
pub mod Refusals

pub mod Resolved
pub mod Functions
pub mod Refusals

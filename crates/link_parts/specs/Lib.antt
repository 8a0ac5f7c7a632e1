pub mod Planned
pub mod Symbols
pub mod Image
pub mod Fitted

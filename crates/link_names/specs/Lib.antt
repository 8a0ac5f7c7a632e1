pub mod Definitions
pub mod Adding
pub mod Data

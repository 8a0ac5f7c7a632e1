pub mod Lines
pub mod Chain
pub mod Moments

pub mod Machine
pub mod Parts
pub mod Functions
pub mod Sound
pub mod Refusals

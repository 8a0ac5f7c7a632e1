pub mod Goals
pub mod Placed
pub mod Code
pub mod Positions
pub mod Astray
pub mod Bytes

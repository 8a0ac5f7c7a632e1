pub mod FrameSizes
pub mod Opening

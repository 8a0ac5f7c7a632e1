pub mod Stands
pub mod Joined

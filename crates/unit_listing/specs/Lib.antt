pub mod Joined
pub mod Kit
pub mod Lines
pub mod Laid
pub mod Listing

pub mod Image
pub mod Steps
pub mod Kept
pub mod Actions
pub mod Soundness
pub mod Joined
pub mod Listed
pub mod Sample

pub mod Code
pub mod Readers
pub mod Marks
pub mod Kept
pub mod Tables
pub mod Profile
pub mod Surrounding
pub mod Going

pub mod Names
pub mod Groups
pub mod Listed
pub mod Rows
pub mod Words
pub mod Aiming

pub mod Tables
pub mod Rows
pub mod Sizing
pub mod Lawful

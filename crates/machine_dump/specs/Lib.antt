pub mod Lines
pub mod Digits
pub mod Form
pub mod Faults
pub mod Contents
pub mod Search
pub mod Read

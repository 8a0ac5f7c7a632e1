pub mod Places
pub mod Addresses
pub mod Keys

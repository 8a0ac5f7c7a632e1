pub mod Lawful
pub mod Placing
pub mod CodeLaws
pub mod Passing

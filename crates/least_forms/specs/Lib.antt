pub mod Problem
pub mod Assignment
pub mod Laws
pub mod Work

pub mod Known
pub mod Sample

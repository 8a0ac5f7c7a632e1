pub mod Words
pub mod Rewriting
pub mod Rewritten
pub mod Laws
pub mod Draft

pub mod Stretches
pub mod Finer
pub mod UsedNames
pub mod Files
pub mod Rows
pub mod Table

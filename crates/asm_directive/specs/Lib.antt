pub mod Names
pub mod Tokens
pub mod Texts
pub mod Statements
pub mod Directives
pub mod LineNames
pub mod Seen
pub mod Views

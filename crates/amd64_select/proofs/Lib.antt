pub mod EasedLemmas
pub mod WidthLemmas
pub mod SelectLemmas

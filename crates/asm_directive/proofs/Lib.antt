pub mod NameLemmas
pub mod StatementLemmas
pub mod TextLemmas
pub mod LineNameLemmas
pub mod HeadLemmas

pub mod ZipLemmas
pub mod SameLemmas
pub mod LineLemmas
pub mod ValueLemmas
pub mod FitLemmas

mod ListLemmas
mod KeepLemmas
mod NumberLemmas

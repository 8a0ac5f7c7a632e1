mod DiskLemmas
mod StreamLemmas
mod WordLemmas

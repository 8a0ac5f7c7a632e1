pub mod ReachLemmas

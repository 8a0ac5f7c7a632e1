pub mod AssemblyLemmas

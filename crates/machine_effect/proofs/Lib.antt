pub mod MemoryLemmas
pub mod PageLemmas
pub mod FlowLemmas
pub mod StateLemmas
pub mod StepLemmas
pub mod WitnessLemmas

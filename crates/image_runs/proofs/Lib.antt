pub mod EffectLemmas
pub mod InsideLemmas
pub mod LastLemmas
pub mod GoingLemmas
pub mod CallLemmas
pub mod OutLemmas
pub mod RunLemmas
pub mod SampleLemmas

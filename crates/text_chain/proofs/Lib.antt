pub mod FrameLemmas
pub mod OneLemmas
pub mod MomentLemmas

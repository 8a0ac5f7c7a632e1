pub mod JoinedLemmas
pub mod LineLemmas
pub mod LaidLemmas
pub mod PlacedLemmas
pub mod OneLemmas
pub mod SaidLemmas
pub mod FrameLemmas
pub mod FunctionLemmas

pub mod DraftLemmas
pub mod GoalLemmas
pub mod SettledLemmas
pub mod StepLemmas
pub mod LineLemmas
pub mod BodyLemmas

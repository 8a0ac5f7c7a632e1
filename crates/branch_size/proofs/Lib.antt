pub mod FormLemmas
pub mod FirstLemmas
pub mod RowLemmas
pub mod SizeLemmas
pub mod RoomLemmas
pub mod GoalLemmas

pub mod ChangeLemmas
pub mod RoleLemmas
pub mod HitLemmas
pub mod FirstLemmas
pub mod EntryLemmas
pub mod FollowLemmas

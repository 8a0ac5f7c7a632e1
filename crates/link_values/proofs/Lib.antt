pub mod EachLemmas
pub mod WrittenLemmas
pub mod PlacedLemmas
pub mod ValueLemmas
pub mod KeptLemmas
pub mod RoomLemmas
mod Examples

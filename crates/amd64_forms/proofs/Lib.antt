pub mod Zero
pub mod Apart
pub mod NamesApart
pub mod AimingLemmas
pub mod Told
pub mod Held

pub mod Register
pub mod Effects
pub mod Instr
pub mod Reading
pub mod Laws
pub mod Run

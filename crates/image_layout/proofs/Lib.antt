pub mod Claims
pub mod Offsets

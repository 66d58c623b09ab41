pub mod Claims
pub mod Sequence

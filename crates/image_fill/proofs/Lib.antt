pub mod Claims
pub mod Filling

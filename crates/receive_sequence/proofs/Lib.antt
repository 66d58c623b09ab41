pub mod Claims
pub mod Passing

pub mod Claims
pub mod Frame
pub mod Limits

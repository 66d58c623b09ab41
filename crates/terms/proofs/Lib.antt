pub mod Claims
pub mod Limits
pub mod Methods

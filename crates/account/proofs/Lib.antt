pub mod Claims
pub mod Codes
pub mod Methods
pub mod Refill
pub mod Step

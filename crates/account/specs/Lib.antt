pub mod Account
pub mod Claims
pub mod Methods
pub mod Step

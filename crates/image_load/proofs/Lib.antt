pub mod Claims
pub mod Fresh
pub mod Loading
pub mod Prefix

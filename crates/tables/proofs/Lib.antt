pub mod Claims
pub mod Lookups
pub mod Rows

pub mod Claims
pub mod Finding
pub mod Rows

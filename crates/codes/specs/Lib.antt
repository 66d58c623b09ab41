pub mod Claims
pub mod Codes
pub mod Refused

pub mod Claims
pub mod Digits
pub mod Words

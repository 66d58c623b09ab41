pub mod Claims
pub mod Decimal
pub mod Words

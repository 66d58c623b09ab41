pub mod Claims
pub mod Decoded
pub mod Laws
pub mod Lent
pub mod Rows

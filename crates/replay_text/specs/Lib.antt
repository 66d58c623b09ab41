pub mod Claims
pub mod Text

pub mod Claims
pub mod Fields

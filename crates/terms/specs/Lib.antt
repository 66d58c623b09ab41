pub mod Claims
pub mod Terms

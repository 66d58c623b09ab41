pub mod Claims
pub mod Writing

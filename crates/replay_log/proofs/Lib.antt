pub mod Claims
pub mod Front
pub mod Records
pub mod Settled

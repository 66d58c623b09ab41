pub mod Accepted
pub mod Bench
pub mod Claims
pub mod Passing
pub mod Prefix
pub mod Reading
pub mod Values

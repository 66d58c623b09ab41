pub mod Bench
pub mod Bucket
pub mod Counted
pub mod Rule

pub mod Claims
pub mod Numbers
pub mod Runs
pub mod Spelled

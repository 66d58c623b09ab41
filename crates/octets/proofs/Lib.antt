pub mod Claims
pub mod Filled
pub mod Numbers
pub mod Parts
pub mod Runs
pub mod Spelled
pub mod Tests

pub mod Claims
pub mod Counts
pub mod Figures
pub mod Isolation
pub mod Meeting
pub mod Memory
pub mod Rule

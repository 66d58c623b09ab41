pub mod Claims
pub mod Figures
pub mod History
pub mod Isolation
pub mod Rule
pub mod Words

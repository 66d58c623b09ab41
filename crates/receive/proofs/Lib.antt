pub mod Claims
pub mod Answering
pub mod Figures
pub mod Part
pub mod Stored
pub mod Words

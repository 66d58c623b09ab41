pub mod Claims
pub mod Figures
pub mod Lent
pub mod Receive

pub mod Claims
pub mod Figures
pub mod Joins
pub mod Log
pub mod Parts
pub mod Text
pub mod Turn

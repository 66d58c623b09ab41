pub mod Claims
pub mod History
pub mod Leading
pub mod Lines
pub mod Lists

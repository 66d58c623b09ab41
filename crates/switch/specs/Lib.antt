pub mod Call
pub mod Claims
pub mod Effects
pub mod History
pub mod Table

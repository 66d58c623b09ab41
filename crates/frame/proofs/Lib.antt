pub mod Claims
pub mod Frame

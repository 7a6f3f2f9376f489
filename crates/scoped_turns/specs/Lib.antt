pub mod Started
pub mod Room

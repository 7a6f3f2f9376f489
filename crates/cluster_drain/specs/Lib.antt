pub mod Drains
pub mod inside

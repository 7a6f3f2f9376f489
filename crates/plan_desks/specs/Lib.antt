pub mod Desks
pub mod inside

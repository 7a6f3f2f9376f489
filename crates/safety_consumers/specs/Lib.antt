pub mod Marked
pub mod Applications
pub mod Owned
pub mod Eager
pub mod Handed

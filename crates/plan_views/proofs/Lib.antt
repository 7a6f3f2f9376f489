pub mod Counting
pub mod Passes

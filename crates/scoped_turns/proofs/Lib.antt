pub mod Pairs
pub mod Owed

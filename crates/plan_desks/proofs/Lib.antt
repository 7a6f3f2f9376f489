pub mod Lines
pub mod Zips

pub mod Closing
pub mod Staying
pub mod Taking
pub mod Zips

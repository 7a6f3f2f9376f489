pub mod Fates
pub mod Faults

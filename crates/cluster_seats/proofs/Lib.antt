pub mod Begun
pub mod Counts
pub mod Lists
pub mod Making
pub mod NewBlanks
pub mod NewFaults

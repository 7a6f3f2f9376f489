pub mod Names
pub mod Counts
pub mod Eaches
pub mod Forward
pub mod Breaks

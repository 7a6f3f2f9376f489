pub mod Journals
pub mod Merges
pub mod Sources
pub mod Entries
pub mod Names
pub mod Pasts
pub mod Tables
pub mod inside

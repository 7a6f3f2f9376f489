-- What only the contracts of this crate's private functions cite.
pub mod Pairs
pub mod Runs

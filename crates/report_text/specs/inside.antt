-- What only the contracts of this crate's private functions, its invariants and its proofs cite.
pub mod Telling
pub mod Confirming
pub mod Consuming
pub mod Kept
pub mod Numbers
pub mod Submitting
pub mod Gathering
pub mod Summing

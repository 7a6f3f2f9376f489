-- What only the contracts of this crate's private functions, its invariants and its proofs cite.
pub mod Readers
pub mod Submitters

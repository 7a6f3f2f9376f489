-- What only the contracts of this crate's private functions, its invariants and its proofs cite.
pub mod Input
pub mod Output
pub mod Generating
pub mod Running

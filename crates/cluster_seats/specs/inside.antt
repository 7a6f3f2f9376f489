-- What only the contracts of this crate's private functions and its proofs cite.
pub mod Midway

-- What only the contracts of this crate's tests and its proofs cite.
pub mod Plans

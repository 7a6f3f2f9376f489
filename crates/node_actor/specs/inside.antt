-- What only the contracts of this crate's private functions, its proofs and its tests cite.
pub mod Alone
pub mod Finishing
pub mod Reacting
pub mod Toys

-- What only this crate's tests cite.
pub mod Toys

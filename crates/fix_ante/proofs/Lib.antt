pub mod WindowLemmas
pub mod Entries
pub mod LayoutLemmas
pub mod PositionLemmas
pub mod OwnerLemmas
pub mod Successors
pub mod MoveLemmas
pub mod LocalLemmas

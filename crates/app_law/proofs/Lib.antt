pub mod EndLemmas
pub mod Folds
pub mod KvLemmas
pub mod OrderLemmas
pub mod PositionLemmas
pub mod WordLemmas

pub mod LeaseLemmas
pub mod KnownLemmas

pub mod PlaceLemmas
pub mod IndexLemmas
pub mod LogLemmas
pub mod NumberLemmas
pub mod LawLemmas

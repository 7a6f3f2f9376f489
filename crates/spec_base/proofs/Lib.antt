pub mod KnownBytes
pub mod MemDiskLemmas
pub mod SourceLemmas

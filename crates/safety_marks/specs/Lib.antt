pub mod Removals
pub mod MarkClauses
pub mod Shown
pub mod Acks

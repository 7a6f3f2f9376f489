pub mod Counting
pub mod LogClauses
pub mod Cuts
pub mod Held

pub mod Standing
pub mod TrueAcks
pub mod Truth

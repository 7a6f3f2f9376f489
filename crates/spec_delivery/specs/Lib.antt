pub mod Buffers
pub mod Lanes

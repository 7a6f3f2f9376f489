pub mod Beginning
pub mod Pairs
pub mod Running
pub mod Ticking
pub mod Writing

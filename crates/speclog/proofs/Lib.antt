pub mod Completing
pub mod Inputs
pub mod Refusing
pub mod Shelving
pub mod Summing
pub mod Usage

pub mod File
pub mod Put
pub mod Stops
pub mod Vault
pub mod inside

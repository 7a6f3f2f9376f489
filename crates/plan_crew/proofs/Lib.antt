pub mod Beginning
pub mod Fitting
pub mod Joining
pub mod Places

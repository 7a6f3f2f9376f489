pub mod Places
pub mod Walk
pub mod Folds
pub mod Homes
pub mod Sound
pub mod Restarts
pub mod Within
pub mod Fits

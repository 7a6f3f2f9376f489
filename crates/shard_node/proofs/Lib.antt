pub mod Places
pub mod Restarts
pub mod Keeps
pub mod Walk
pub mod Lives
pub mod Messages
pub mod Within
pub mod Loops

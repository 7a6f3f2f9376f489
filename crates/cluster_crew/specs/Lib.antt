pub mod Marks
pub mod Shown
pub mod Posts
pub mod Watching
pub mod Crews
pub mod Ending
pub mod inside

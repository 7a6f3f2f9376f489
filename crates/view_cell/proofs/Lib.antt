pub mod Rising
pub mod Adding
pub mod Ends

pub mod Submitting
pub mod Noting
pub mod Reading
pub mod inside

pub mod Links
pub mod inside

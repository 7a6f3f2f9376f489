pub mod Blanks
pub mod Seatings
pub mod Toys
pub mod inside

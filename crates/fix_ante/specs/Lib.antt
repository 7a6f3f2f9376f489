pub mod Windows
pub mod Layout
pub mod Positions
pub mod Moves
pub mod Locals

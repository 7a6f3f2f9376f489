pub mod Gates
pub mod Steps
pub use Rattle.app_law.specs.Positions

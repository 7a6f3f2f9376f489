pub mod Points
pub mod inside
pub use Rattle.app_law.specs.Folds
pub use Rattle.app_law.specs.Positions

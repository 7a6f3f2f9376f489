-- A source or a sink over a reader or a writer of std.
use Rattle.std.specs.Prelude.{ℕ}

-- a source or a sink over a reader or a writer of std: that one, and how often it answered an error
pub record Adapter (T : Type 0) : Type 0 where
  pub inner : T
  pub faults : ℕ

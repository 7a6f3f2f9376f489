-- What contracts see of the objects in memory.
use Rattle.std.specs.Prelude.{ℕ, List}
use Rattle.spec_base.specs.Plan.{Plan}

-- a source: the bytes left, and the greatest piece of one call
pub record SourceMemory : Type 0 where
  pub left : List ℕ
  pub most : ℕ
  pub plan : Plan

-- a sink: the bytes taken, and the greatest piece of one call
pub record SinkMemory : Type 0 where
  pub taken : List ℕ
  pub most : ℕ
  pub plan : Plan

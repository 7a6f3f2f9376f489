-- The locals that owners have of a shard, and a shard's positions in each round.
use Rattle.std.specs.Prelude.{ℕ, ◌==◌, if◌then◌else◌, List, [], ◌∷◌}
use Rattle.fix_ante.specs.declared.spots.Spot.{Spot}
use Rattle.fix_ante.specs.declared.spots.Owner.{Owner}

-- the locals of a shard among owners, in order
abbrev pub locals_of : ℕ → List Owner → List ℕ
locals_of shard [] = []
locals_of shard (o ∷ os) = if o.shard == shard then o.local ∷ locals_of shard os else locals_of shard os

-- a shard's positions in each round: none where no row is the shard's
abbrev pub quota_of : List Spot → ℕ → ℕ
quota_of [] shard = 0
quota_of (s ∷ ss) shard = if s.shard == shard then s.quota else quota_of ss shard

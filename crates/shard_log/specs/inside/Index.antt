-- The index of one client's places, as the code keeps it.
use Rattle.std.specs.Prelude.{◌≡◌, ℕ}
use Rattle.std.specs.BTreeMap.{get}
use Rattle.std.specs.Ordering.{nat_cmp}
use Rattle.std.specs.List.Sorted.{IsNonDecreasingBy}
use Rattle.shard_log.specs.declared.index.ClientIndex.TheInside.{Inside}
use Rattle.shard_log.specs.declared.index.Place.{Place}
use Rattle.shard_log.specs.inside.Places.{first_with}

-- the places stand in order of local, and the map has the first local of each number
pub record IsIndex (i : Inside) : Type 0 where
  pub rising : IsNonDecreasingBy (λ (p : Place). p.local) i.places.items
  pub found : (number : ℕ) → get nat_cmp i.locals number ≡ first_with number i.places.items

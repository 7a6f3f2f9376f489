-- A window laid out: its owners, position after position.
use Rattle.std.specs.Prelude.{ℕ, zero, suc, ◌+◌, ◌-◌, ◌*◌, ◌==◌, ◌&&◌, nat_lt, if◌then◌else◌, List, [], ◌∷◌, ◌++◌, Option, Some, None}
use Rattle.std.specs.List.{slice_get}
use Rattle.std.specs.Option.{option_map}
use Rattle.fix_ante.specs.declared.spots.Spot.{Spot}
use Rattle.fix_ante.specs.declared.spots.Owner.{Owner}
use Rattle.fix_ante.specs.Windows.{Window}

-- the next locals of a shard, from one on
abbrev pub owners_from : ℕ → ℕ → ℕ → List Owner
owners_from shard local zero = []
owners_from shard local (suc count) = record { shard = shard; local = local } ∷ owners_from shard (suc local) count

-- the owners of a round: for each row in order, the next q locals of its shard
abbrev pub round_of : List Spot → ℕ → List Owner
round_of [] round = []
round_of (s ∷ ss) round = owners_from s.shard (s.start + round * s.quota) s.quota ++ round_of ss round

-- the owners of so many rounds, from one on
abbrev pub rounds_from : List Spot → ℕ → ℕ → List Owner
rounds_from spots round zero = []
rounds_from spots round (suc count) = round_of spots round ++ rounds_from spots (suc round) count

-- a window laid out as a list of owners, position after position
abbrev pub layout_of : Window → List Owner
layout_of w = rounds_from w.spots 0 w.rounds

-- where an owner stands first
abbrev pub index_of : List Owner → ℕ → ℕ → Option ℕ
index_of [] shard local = None
index_of (o ∷ os) shard local = if (o.shard == shard) && (o.local == local) then Some 0 else option_map suc (index_of os shard local)

-- the position that a window gives to a shard's local: its index in the layout
abbrev pub place_of : Window → ℕ → ℕ → Option ℕ
place_of w shard local = option_map (λ i. w.base + i) (index_of (layout_of w) shard local)

-- the owner of a position in a window: the entry of the layout
abbrev pub owner_of : Window → ℕ → Option Owner
owner_of w position = if nat_lt position w.base then None else slice_get (layout_of w) (position - w.base)

-- The position of a local and the owner of a place, by the rule of quotas.
use Rattle.std.specs.Prelude.{ℕ, ◌+◌, ◌-◌, ◌*◌, ◌/◌, ◌%◌, ◌==◌, ◌&&◌, nat_lt, nat_le, if◌then◌else◌, List, [], ◌∷◌, Option, Some, None}
use Rattle.std.specs.Option.{option_map}
use Rattle.fix_ante.specs.declared.spots.Spot.{Spot}
use Rattle.fix_ante.specs.declared.spots.Owner.{Owner}
use Rattle.fix_ante.specs.Windows.{Window, width_of}

-- how rows stand in a layout: in so many rounds of this width, with this many positions of each round before the first of the rows
pub record Lay : Type 0 where
  pub rounds : ℕ
  pub width : ℕ
  pub before : ℕ

-- the rows of a window
abbrev pub lay_of : Window → Lay
lay_of w = record { rounds = w.rounds; width = width_of w; before = 0 }

-- the rows behind this one
abbrev pub lay_past : Lay → Spot → Lay
lay_past lay s = record { rounds = lay.rounds; width = lay.width; before = lay.before + s.quota }

-- the index of a row's local in a layout in which the row stands so: none where the local is before the row's start, or after its last round
abbrev pub index_in : Lay → Spot → ℕ → Option ℕ
index_in lay s local =
    if nat_le s.start local && nat_lt (local - s.start) (lay.rounds * s.quota)
    then Some (((local - s.start) / s.quota) * lay.width + lay.before + (local - s.start) % s.quota)
    else None

-- the same of an owner, a shard's local: none where no row is the shard's
abbrev pub index_among : Lay → List Spot → Owner → Option ℕ
index_among lay [] o = None
index_among lay (s ∷ ss) o = if s.shard == o.shard then index_in lay s o.local else index_among (lay_past lay s) ss o

-- the position of a shard's local, by the rule of quotas
abbrev pub position_of : Window → ℕ → ℕ → Option ℕ
position_of w shard local = option_map (λ i. w.base + i) (index_among (lay_of w) w.spots (record { shard = shard; local = local }))

-- who has a place in a round: the first row whose quota reaches it
abbrev pub owner_among : List Spot → ℕ → ℕ → Option Owner
owner_among [] round at = None
owner_among (s ∷ ss) round at =
    if nat_lt at s.quota then Some (record { shard = s.shard; local = s.start + round * s.quota + at })
    else owner_among ss round (at - s.quota)

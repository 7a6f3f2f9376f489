-- Which rows are short of a round's end, and whether a row is past a round's begin.
use Rattle.std.specs.Prelude.{ℕ, Bool, nat_lt, if◌then◌else◌, List, [], ◌∷◌, slice_index}
use Rattle.std.specs.List.{list_any}
use Rattle.fix_ante.specs.declared.spots.Spot.{Spot}
use Rattle.fix_ante.specs.Windows.{round_begin, round_end}
use Rattle.lag_fix.specs.declared.wanted.Wanted.{Wanted}

-- the rows whose shard's length is less than the round's end, in order, with the length that ends the round
abbrev pub lagging_of : List Spot → ℕ → List ℕ → List Wanted
lagging_of [] round lengths = []
lagging_of (s ∷ ss) round lengths =
    if nat_lt (slice_index lengths s.shard) (round_end s round)
    then record { shard = s.shard; len = round_end s round } ∷ lagging_of ss round lengths
    else lagging_of ss round lengths

-- whether some row's length is more than the round's begin
abbrev pub is_uncovered : List Spot → ℕ → List ℕ → Bool
is_uncovered spots round lengths = list_any (λ (s : Spot). nat_lt (round_begin s round) (slice_index lengths s.shard)) spots

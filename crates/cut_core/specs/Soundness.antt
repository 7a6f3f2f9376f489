-- What holds of the state after every list of entries, as its proofs carry it.
use Rattle.std.specs.Prelude.{ℕ, ◌≡◌, ◌<◌, ◌≤◌, ◌*◌, true, false, nat_eq, length, map, Option, Some, None}
use Rattle.std.specs.List.{AllByRecursion, IsDistinct, range_with_len}
use Rattle.fix_ante.specs.Windows.{Window, IsWindow, has_row, end_after, end_of, start_after}
use Rattle.fix_ante.specs.Locals.{locals_of}
use Rattle.cut_core.specs.Agreements.{Agreement, Gone, count_of, is_gone}

-- the first of all windows: no start of a window is past its base, so the starts are 0 too
pub record IsFirst (w : Window) : Type 0 where
  pub number : w.number ≡ 0
  pub base : w.base ≡ 0

-- a granted window follows all rounds of the current one: each of its shards goes on after that one, or from 0 where it
-- was no row of it, and none is gone
pub record IsGrant (a : Agreement) (w : Window) : Type 0 where
  pub window : IsWindow w
  pub base : w.base ≡ end_of a.current
  pub starts : (shard : ℕ) → has_row shard w.spots ≡ true → start_after w.spots 0 shard ≡ start_after a.current.spots a.current.rounds shard
  pub stays : (shard : ℕ) → has_row shard w.spots ≡ true → is_gone a shard ≡ false

abbrev pub MayBeGrant : Agreement → Option Window → Type 0
MayBeGrant a None = Unit {0}
MayBeGrant a (Some w) = IsGrant a w

-- what every list of entries leaves
pub record IsSound (a : Agreement) : Type 0 where
  pub window : IsWindow a.current
  pub short : a.rounds < a.current.rounds
  pub covered : length a.covered ≡ end_after a.current a.rounds
  pub starts : (shard : ℕ) → is_gone a shard ≡ false → start_after a.current.spots a.rounds shard ≡ count_of shard a.covered
  pub dense : (shard : ℕ) → locals_of shard a.covered ≡ range_with_len 0 (count_of shard a.covered)
  pub rows : (shard : ℕ) → has_row shard a.current.spots ≡ true → is_gone a shard ≡ false
  pub grant : MayBeGrant a a.granted
  pub reach : a.current.base ≤ 393216 * a.slots

-- the gone shards differ and are 0 to 5, and each one's end is one past its last covered local
pub record HasFinalEnds (a : Agreement) : Type 0 where
  pub distinct : IsDistinct nat_eq (map (λ (g : Gone). g.shard) a.gone)
  pub within : (shard : ℕ) → is_gone a shard ≡ true → shard < 6
  pub ends : AllByRecursion (λ (g : Gone). g.end ≡ count_of g.shard a.covered) a.gone

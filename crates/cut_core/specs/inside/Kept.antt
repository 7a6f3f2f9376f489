-- What the code keeps of the agreed state, window by window, and the agreement that it stands for.
use Rattle.std.specs.Prelude.{ℕ, ◌≡◌, ◌<◌, ◌≤◌, ◌+◌, ◌-◌, ◌*◌, List, ◌++◌, length, take, replicate, slice_index, Some, None}
use Rattle.std.specs.List.{flat_map, slice_get}
use Rattle.std.specs.Option.{option_map, unwrap_or, IsSome}
use Rattle.fix_ante.specs.declared.spots.Spot.{Spot}
use Rattle.fix_ante.specs.declared.spots.Owner.{Owner}
use Rattle.fix_ante.specs.Windows.{Window, IsWindow, width_of, start_after}
use Rattle.fix_ante.specs.Layout.{rounds_from, owner_of, place_of}
use Rattle.cut_core.specs.declared.past.Past.{Past}
use Rattle.cut_core.specs.declared.agreed.Agreed.TheInside.{Inside}
use Rattle.cut_core.specs.Agreements.{Agreement, Gone, count_of}
use Rattle.cut_core.specs.Map.{placed, covered_locals, end_among}
use Rattle.cut_core.specs.Soundness.{IsSound, HasFinalEnds}

-- the covered owners of a window that is over, and its number for each
abbrev pub owners_in : Past → List Owner
owners_in p = rounds_from p.window.spots 0 p.rounds

abbrev pub numbers_in : Past → List ℕ
numbers_in p = replicate (p.rounds * width_of p.window) p.window.number

-- what is kept of a window that is over, after the owners before it
pub record IsOver (before : List Owner) (p : Past) : Type 0 where
  pub window : IsWindow p.window
  pub base : p.window.base ≡ length before
  pub rounds : p.rounds ≤ p.window.rounds
  pub end : p.end ≡ length (before ++ owners_in p)
  pub ends : (shard : ℕ) → shard < 6 → slice_index p.ends shard ≡ count_of shard (before ++ owners_in p)

-- each of the windows that are over follows those before it
abbrev pub AreOver : List Past → Type 0
AreOver past = (at : ℕ) (p : Past) → slice_get past at ≡ Some p → IsOver (flat_map owners_in (take at past)) p

-- the agreement that the windows stand for
abbrev pub agreement_of : Inside → Agreement
agreement_of i = record {
  slots = i.slots;
  covered = flat_map owners_in i.past.items ++ rounds_from i.current.spots 0 i.rounds;
  numbers = flat_map numbers_in i.past.items ++ replicate (i.rounds * width_of i.current) i.current.number;
  current = i.current;
  rounds = i.rounds;
  granted = i.granted;
  gone = i.gone.items;
}

pub record IsAgreed (i : Inside) : Type 0 where
  pub sound : IsSound (agreement_of i)
  pub final : HasFinalEnds (agreement_of i)
  pub few : i.slots ≤ 1000000
  pub over : AreOver i.past.items

-- the current window is over after these rounds, and another one follows
abbrev pub followed : Agreement → ℕ → Window → List Gone → Agreement
followed a rounds next gone = record {
  slots = a.slots + 1;
  covered = a.covered ++ rounds_from a.current.spots a.rounds (rounds - a.rounds);
  numbers = a.numbers ++ replicate ((rounds - a.rounds) * width_of a.current) a.current.number;
  current = next;
  rounds = 0;
  granted = None;
  gone = gone;
}

-- a shard's covered locals after these rounds: its final end where it is gone
abbrev pub local_end : List Spot → ℕ → List Gone → ℕ → ℕ
local_end spots rounds gone shard = unwrap_or (end_among gone shard) (start_after spots rounds shard)

-- the window at a place among those that are over, or the current one past them
abbrev pub window_from : List Past → ℕ → Window → Window
window_from past at current = unwrap_or (option_map (λ (p : Past). p.window) (slice_get past at)) current

-- a position past the covered ones
pub record IsPast (a : Agreement) (position : ℕ) : Type 0 where
  pub past : length a.covered ≤ position
  pub owner : slice_get a.covered position ≡ None
  pub number : slice_get a.numbers position ≡ None

-- a covered position stands in this window
pub record StandsIn (a : Agreement) (position : ℕ) (w : Window) : Type 0 where
  pub valid : IsWindow w
  pub owner : slice_get a.covered position ≡ owner_of w position
  pub number : slice_get a.numbers position ≡ Some w.number

-- a local past the shard's covered ones
pub record IsPastLocal (a : Agreement) (shard local : ℕ) : Type 0 where
  pub past : covered_locals a shard ≤ local
  pub place : placed a shard local ≡ None

-- a shard's covered local stands in this window
pub record HasLocal (a : Agreement) (shard local : ℕ) (w : Window) : Type 0 where
  pub some : IsSome (placed a shard local)
  pub place : placed a shard local ≡ place_of w shard local

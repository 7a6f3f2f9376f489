-- Counts of faults, and what one call may do to them.
use Rattle.std.specs.Prelude.{◌≡◌, ◌⊎◌, ℕ, ◌+◌, ◌-◌, ◌^◌, ◌<◌, ◌≤◌, Bool, IsTrue, min, Result, Ok, Err}
use Rattle.spec_base.specs.declared.stop.Stop.{Stop}
use Rattle.spec_base.specs.declared.stop.Stop.TheVariants.{Failed, OutOfMemory}

-- one more, up to the end of the type, where a count stands still
abbrev pub next_count : ℕ → ℕ
next_count n = min (n + 1) (2 ^ 64 - 1)

-- a count rose; at the end of its type it stands still, and each error counts as a rise
abbrev pub Rose : ℕ → ℕ → Type 0
Rose old new = (old < new) ⊎ (2 ^ 64 - 1 ≤ old)

-- a count that rose, by one at most
pub record RoseByOne (old new : ℕ) : Type 0 where
  pub no_fall : old ≤ new
  pub at_most_one : new ≤ old + 1
  pub rose : Rose old new

-- over one call the count of faults rises, by one, where the call failed, and else stays
abbrev pub CountsFault : {T : Type 0} → ℕ → ℕ → Result T Stop → Type 0
CountsFault old new (Ok _) = new ≡ old
CountsFault old new (Err OutOfMemory) = new ≡ old
CountsFault old new (Err Failed) = RoseByOne old new

-- an object that never fails stays so, and its count of faults stays
pub record StaysSound (sound_old sound_new : Bool) (old new : ℕ) : Type 0 where
  pub same : sound_new ≡ sound_old
  pub still : IsTrue sound_old → new ≡ old

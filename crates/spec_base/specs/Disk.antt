-- What the calls of a disk do to its bytes.
use Rattle.std.specs.Prelude.{◌≡◌, ⊤, ℕ, ◌+◌, ◌-◌, ◌<◌, ◌≤◌, min, List, ◌++◌, length, take, drop, Option, Some, None, Result, Ok, Err}
use Rattle.spec_base.specs.declared.stop.Stop.{Stop}
use Rattle.spec_base.specs.declared.stop.Stop.TheVariants.{Failed, OutOfMemory}

-- what a call did to the bytes, where the disk tells them; one that tells always tells, and one that doesn't never does
abbrev pub Told : (List ℕ → List ℕ → Type 0) → Option (List ℕ) → Option (List ℕ) → Type 0
Told step None None = ⊤
Told step None (Some new) = ⊥
Told step (Some old) None = ⊥
Told step (Some old) (Some new) = step old new

-- a read at an offset gave n bytes of the file, and none only at or past its end or into no room
pub record GivesPart (at n : ℕ) (into file : List ℕ) : Type 0 where
  pub there : n ≤ length (drop at file)
  pub bytes : take n into ≡ take n (drop at file)
  pub end : n ≡ 0 → 0 < length into → length file ≤ at

-- new is old with these bytes at this offset; between the old end and the offset stand any bytes
pub record Written (at : ℕ) (bytes old new : List ℕ) : Type 0 where
  pub gap : List ℕ
  pub reaches : length gap ≡ at - length old
  pub result : new ≡ take at old ++ gap ++ bytes ++ drop (at + length bytes) old

-- after a write of n bytes that was cut short: any bytes in the range and past the old end, the others as before
pub record Torn (at n : ℕ) (old new : List ℕ) : Type 0 where
  pub no_shorter : length old ≤ length new
  pub before : take (min at (length old)) new ≡ take (min at (length old)) old
  pub after : take (length old - (at + n)) (drop (at + n) new) ≡ drop (at + n) old

-- failures in a row: one more, up to 2, at Failed; none after an Ok
abbrev pub CountsRow : {T : Type 0} → ℕ → ℕ → Result T Stop → Type 0
CountsRow old new (Ok _) = new ≡ 0
CountsRow old new (Err OutOfMemory) = new ≡ old
CountsRow old new (Err Failed) = new ≡ min (old + 1) 2

-- What the calls of a shelf do to its names.
use Rattle.std.specs.Prelude.{◌≡◌, ◌≢◌, ℕ, List, [], Option, Some, None}
use Rattle.spec_base.specs.Crash.{Only}

-- every other name is as before
abbrev pub SameBut : {T : Type 0} → List ℕ → (List ℕ → T) → (List ℕ → T) → Type 0
SameBut name old new = (other : List ℕ) → other ≢ name → new other ≡ old other

-- the disk that lay on the shelf; an empty one, also in every crash, where none did
abbrev pub GivesKept : {D : Type 0} → (D → Option (List ℕ)) → (D → List ℕ → Type 0) → Option D → D → Type 0
GivesKept seen may_leave None disk = (seen disk ≡ Some []) × Only [] (may_leave disk)
GivesKept seen may_leave (Some kept) disk = disk ≡ kept

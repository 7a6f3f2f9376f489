-- Which looks a reader keeps.
use Rattle.std.specs.Prelude.{ℕ, ◌==◌, nat_le, nat_lt, Bool, false, List, [], ◌∷◌, ◌++◌, take, Option, None, Some, if◌then◌else◌}
use Rattle.std.specs.List.{filter}
use Rattle.view_cell.specs.declared.look.Look.{Look}
use Rattle.view_cell.specs.Looks.{IsRising, newest_of}
use Rattle.cluster_users.specs.declared.notes.Notes.{Notes}

abbrev pub no_notes : Notes
no_notes = record { before = None; kept = [] }

abbrev pub with_kept : Notes → List Look → Notes
with_kept notes kept = record { before = notes.before; kept = kept }

-- whether the look before had this number
abbrev pub is_again : Option ℕ → ℕ → Bool
is_again None number = false
is_again (Some before) number = before == number

-- one look more: it is kept where its number is not that of the look before; the first one is kept too
abbrev pub noted : Notes → Look → Notes
noted notes look = record { before = Some look.ops; kept = if is_again notes.before look.ops then notes.kept else notes.kept ++ look ∷ [] }

abbrev pub all_noted : Notes → List Look → Notes
all_noted notes [] = notes
all_noted notes (look ∷ looks) = all_noted (noted notes look) looks

-- what was told is kept, where its number is above that of the newest that is kept, or none is
abbrev pub told_after : Look → List Look → Option Look → List Look
told_after told kept None = kept ++ told ∷ []
told_after told kept (Some newest) = if nat_lt newest.ops told.ops then kept ++ told ∷ [] else kept

abbrev pub told_last : Look → List Look → List Look
told_last told kept = told_after told kept (newest_of kept)

-- the looks with a number up to one
abbrev pub up_to : ℕ → List Look → List Look
up_to number looks = filter (λ (x : Look). nat_le x.ops number) looks

-- an episode's last look, where so many were kept as it began: it is noted where it was handed out; where it was not, what the episode
-- kept is dropped
abbrev pub last_noted : Bool → ℕ → Notes → Look → Notes
last_noted met begun notes last = if met then noted notes last else (record { before = Some last.ops; kept = take begun notes.kept })

-- the end of an episode with this last look: no look above what was told is kept, and what was told is the last that is
abbrev pub episode_noted : Bool → ℕ → Look → Notes → Look → Notes
episode_noted met begun told notes last = let noted = last_noted met begun notes last in with_kept noted (told_last told (up_to told.ops noted.kept))

-- the numbers rise strictly
abbrev pub RiseStrictly : List Look → Type 0
RiseStrictly [] = Unit {0}
RiseStrictly (x ∷ xs) = IsRising x.ops xs

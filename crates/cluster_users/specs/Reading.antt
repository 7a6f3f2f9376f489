-- What contracts see of a reader, what its turns do, and what the end of an episode does.
use Rattle.std.specs.Prelude.{◌≡◌, ℕ, ◌≤◌, Bool, false, List, [], ◌∷◌, length, Some}
use Rattle.std.specs.List.{All, Contains}
use mathlib.Core.List.{IsPrefix}
use Rattle.view_cell.specs.declared.look.Look.{Look}
use Rattle.view_cell.specs.Looks.{newest_of}
use Rattle.view_cell.specs.Ends.{Watching, Showing}
use Rattle.cluster_users.specs.declared.notes.Notes.{Notes}
use Rattle.cluster_users.specs.Noting.{no_notes, all_noted, episode_noted, RiseStrictly}

pub record Reading : Type 0 where
  pub number : ℕ
  pub consumer : ℕ  -- whose view it looks at
  pub pass : Watching
  pub notes : Notes  -- the looks that it keeps, and the number of the look before
  pub begun : ℕ  -- how many looks were kept as the episode began
  pub wanting : Bool  -- whether memory was wanted for a look

abbrev pub seen_as : ℕ → ℕ → Watching → Notes → ℕ → Bool → Reading
seen_as number consumer pass notes begun wanting =
    record { number = number; consumer = consumer; pass = pass; notes = notes; begun = begun; wanting = wanting }

-- a reader that has not looked yet
abbrev pub reading : ℕ → ℕ → Watching → Reading
reading number consumer pass = seen_as number consumer pass no_notes 0 false

-- it is the same reader of the same view, which has seen as much or more
pub record GoesOn (before after : Reading) : Type 0 where
  pub same : (after.number ≡ before.number) × (after.consumer ≡ before.consumer) × (after.pass.cell ≡ before.pass.cell)
  pub seen : IsPrefix before.pass.seen after.pass.seen
  pub rises : before.pass.last.ops ≤ after.pass.last.ops
  pub rise : RiseStrictly after.notes.kept

-- the numbers of looks never fall, from one number up to another
abbrev pub NeverFall : ℕ → List Look → ℕ → Type 0
NeverFall from [] to = from ≤ to
NeverFall from (x ∷ xs) to = (from ≤ x.ops) × NeverFall x.ops xs to

-- it looked so many times, and kept of those looks what the rules say
pub record Looked (turns : ℕ) (before after : Reading) : Type 0 where
  pub looks : List Look
  pub each_turn : length looks ≡ turns
  pub kept : after.notes ≡ all_noted before.notes looks
  pub never_fall : NeverFall before.pass.last.ops looks after.pass.last.ops
  pub stand : All (Contains after.pass.seen) looks

-- what so many turns do; a reader for which memory was wanted looks no more
pub record Reads (turns : ℕ) (before after : Reading) : Type 0 where
  pub goes_on : GoesOn before after
  pub episode : after.begun ≡ before.begun
  pub went_well : after.wanting ≡ false → before.wanting ≡ false
  pub looked : after.wanting ≡ false → Looked turns before after

-- what the end of an episode does, with a note of what was published last
pub record Ends (told : Showing) (before after : Reading) : Type 0 where
  pub kept : after.notes ≡ episode_noted after.pass.met before.begun told.newest before.notes after.pass.last
  pub last : newest_of after.notes.kept ≡ Some told.newest
  pub stand : All (Contains told.looks) after.notes.kept
  pub episode : after.begun ≡ length after.notes.kept
  pub went_well : (before.wanting ≡ false) × (after.wanting ≡ false)

-- The bytes that a body has, wherever they are kept. No public clause cites this.
use Rattle.std.specs.Prelude.{ℕ, ◌≤◌, ◌<◌, List, length, take}
use Rattle.std.specs.Arc.{arc_slice_items}
use Rattle.record_codec.specs.declared.body.Kept.{Kept}
use Rattle.record_codec.specs.declared.body.Kept.TheVariants.{Here, Shared}
use Rattle.record_codec.specs.declared.body.TheConstants.{IN_PLACE}

abbrev pub kept_bytes : Kept → List ℕ
kept_bytes (Here len places) = take len places
kept_bytes (Shared bytes) = arc_slice_items bytes

-- no more stand in a value than it has places for, and only more than that are shared
abbrev pub IsKeptByLength : Kept → Type 0
IsKeptByLength (Here len places) = len ≤ IN_PLACE
IsKeptByLength (Shared bytes) = IN_PLACE < length (arc_slice_items bytes)

-- What messages tell as decided, gathered in order: an entry for each slot that was told, the slots rising.
use Rattle.std.specs.Prelude.{ℕ, ◌<◌, ◌==◌, ◌&&◌, Bool, true, false, is_some, if◌then◌else◌, List, [], ◌∷◌, ◌++◌, fold, codes}
use Rattle.std.specs.Map.{lookup}
use Rattle.std.specs.BTreeMap.{insert_entry, is_at}
use Rattle.std.specs.Ordering.{nat_cmp}
use Rattle.cut_core.specs.declared.effects.Effect.{Effect}
use Rattle.cut_core.specs.declared.effects.Effect.TheVariants as effects
use Rattle.cut_core.specs.Agreements.{Agreement}
use Rattle.cut_core.specs.Fold.{applied, HasValidTable}
use Rattle.cut_core.specs.Reasons.{fault_of}
use Rattle.runs.specs.Names.{Entry, Message, What}
use Rattle.runs.specs.Names.whats
use Rattle.report_text.specs.Lines.{ended}
use Rattle.report_text.specs.Slots.{slot_line}

-- ---- gathered

abbrev pub Told : Type 0
Told = List (ℕ × Entry)

abbrev pub is_told : Told → ℕ → Bool
is_told told slot = is_some (lookup (is_at (nat_cmp slot)) told)

-- the first entry of a slot stays
abbrev pub with_told : Told → ℕ → Entry → Told
with_told told slot entry = if is_told told slot then told else insert_entry nat_cmp told slot entry

abbrev pub with_what : Told → What → Told
with_what told (whats.Decided slot count entry) = with_told told slot entry
with_what told _ = told

abbrev pub with_message : Told → Message → Told
with_message told m = with_what told m.what

abbrev pub with_messages : Told → List Message → Told
with_messages told messages = fold with_message told messages

-- ---- as text

-- a slot, and an entry that can be applied
abbrev pub IsValidTold : ℕ × Entry → Type 0
IsValidTold told = (told.0 < 1000000) × HasValidTable told.1

-- the entries so far are those of all lower slots, and after them this one doesn't fit
abbrev pub is_void_after : Agreement → ℕ → Entry → Bool
is_void_after agreed slot entry = (agreed.slots == slot) && is_some (fault_of agreed entry)

-- an entry is applied after those of all lower slots
abbrev pub after_told : Agreement → ℕ → Entry → Agreement
after_told agreed slot entry = if agreed.slots == slot then applied agreed entry else agreed

-- the lines of slots, after the entries of lower ones
abbrev pub told_lines : Agreement → Told → List ℕ
told_lines agreed [] = []
told_lines agreed (e ∷ told) = slot_line e.0 e.1 (is_void_after agreed e.0 e.1) ++ told_lines (after_told agreed e.0 e.1) told

-- the end of a slot's line
abbrev pub void_words : Bool → List ℕ
void_words void = ended (if void then codes " void" else [])

-- an entry did nothing, since it didn't fit
abbrev pub is_void_effect : Effect → Bool
is_void_effect (effects.Void reason) = true
is_void_effect effects.Still = false
is_void_effect (effects.Covered rounds) = false
is_void_effect (effects.Opened window) = false
is_void_effect (effects.Granted window) = false
is_void_effect (effects.Removed shard first) = false

-- What an entry does in a state, or that it is void.
use Rattle.std.specs.Prelude.{◌+◌, Bool, true, false, if◌then◌else◌, Option, Some, None}
use Rattle.quota_table.specs.declared.entry.Entry.{Entry}
use Rattle.quota_table.specs.declared.entry.Entry.TheVariants.{Nothing, Cut, Table, Remove}
use Rattle.fix_ante.specs.Windows.{Window}
use Rattle.fix_ante.specs.Moves.{first_failed_of}
use Rattle.cut_core.specs.declared.effects.Effect.{Effect}
use Rattle.cut_core.specs.declared.effects.Effect.TheVariants.{Still, Covered, Opened, Granted, Removed, Void}
use Rattle.cut_core.specs.declared.effects.Reason.{Reason}
use Rattle.cut_core.specs.Agreements.{Agreement, is_last_round}
use Rattle.cut_core.specs.Reasons.{fault_of}

-- a cut covers a round; the last one opens the granted window
abbrev pub cut_effect : Agreement → Option Window → Effect
cut_effect a None = Covered (a.rounds + 1)
cut_effect a (Some granted) = if is_last_round a then Opened granted.number else Covered (a.rounds + 1)

-- what an entry that fits does
abbrev pub effect_where_fit : Agreement → Entry → Effect
effect_where_fit a Nothing = Still
effect_where_fit a (Cut window round) = cut_effect a a.granted
effect_where_fit a (Table after rounds rows) = Granted (a.slots + 1)
effect_where_fit a (Remove window shard) = Removed shard (first_failed_of a.current a.rounds shard)

abbrev pub void_or : Option Reason → Effect → Effect
void_or None effect = effect
void_or (Some reason) effect = Void reason

-- what an entry does, or why it is void
abbrev pub effect_of : Agreement → Entry → Effect
effect_of a entry = void_or (fault_of a entry) (effect_where_fit a entry)

-- another window follows the current one, which is over then
abbrev pub ends_window : Effect → Bool
ends_window Still = false
ends_window (Covered rounds) = false
ends_window (Opened window) = true
ends_window (Granted window) = false
ends_window (Removed shard first) = true
ends_window (Void reason) = false

-- The state after an entry, and the fold of a list of entries.
use Rattle.std.specs.Prelude.{ℕ, ◌+◌, ◌≤◌, not, if◌then◌else◌, List, [], ◌∷◌, ◌++◌, map, Option, Some, None, replicate}
use Rattle.std.specs.List.{filter}
use Rattle.quota_table.specs.declared.rows.Row.{Row}
use Rattle.quota_table.specs.Rows.{IsTable}
use Rattle.quota_table.specs.declared.entry.Entry.{Entry}
use Rattle.quota_table.specs.declared.entry.Entry.TheVariants.{Nothing, Cut, Table, Remove}
use Rattle.fix_ante.specs.declared.spots.Spot.{Spot}
use Rattle.fix_ante.specs.Windows.{Window, has_row, width_of, window_after, without_of}
use Rattle.fix_ante.specs.Layout.{round_of}
use Rattle.cut_core.specs.declared.effects.Reason.{Reason}
use Rattle.cut_core.specs.Agreements.{Agreement, Gone, agreement_from, count_of, is_last_round}
use Rattle.cut_core.specs.Reasons.{fault_of}

-- one round more is covered
abbrev pub with_round : Agreement → Agreement
with_round a = record a {
  covered = a.covered ++ round_of a.current.spots a.rounds;
  numbers = a.numbers ++ replicate (width_of a.current) a.current.number;
  rounds = a.rounds + 1;
}

-- the rows of the current window that are none of the opened one, each with the end of its shard
abbrev pub dropped_rows : Agreement → Window → List Gone
dropped_rows a window =
    map (λ (s : Spot). record { shard = s.shard; end = count_of s.shard a.covered }) (filter (λ (s : Spot). not (has_row s.shard window.spots)) a.current.spots)

-- a window is opened, and the shards of the one before that are no rows of it are gone
abbrev pub opened : Agreement → Window → Agreement
opened a window = record a { current = window; rounds = 0; granted = None; gone = a.gone ++ dropped_rows a window }

-- where all rounds are covered the granted window is opened
abbrev pub open_granted : Agreement → Option Window → Agreement
open_granted a None = a
open_granted a (Some window) = opened a window

abbrev pub after_cut : Agreement → Agreement
after_cut a = if is_last_round a then open_granted (with_round a) a.granted else with_round a

-- a window is granted; its number is one more than the slot of its entry
abbrev pub after_table : Agreement → ℕ → List Row → Agreement
after_table a rounds rows = record a { granted = Some (window_after a.current (a.slots + 1) rounds rows) }

-- a shard is gone, and the rest of its window is laid out anew without it
abbrev pub after_remove : Agreement → ℕ → Agreement
after_remove a shard = record a {
  current = without_of a.current (a.slots + 1) a.rounds shard;
  rounds = 0;
  granted = None;
  gone = a.gone ++ record { shard = shard; end = count_of shard a.covered } ∷ [];
}

-- what an entry that fits leaves
abbrev pub after_entry : Agreement → Entry → Agreement
after_entry a Nothing = a
after_entry a (Cut window round) = after_cut a
after_entry a (Table after rounds rows) = after_table a rounds rows
after_entry a (Remove window shard) = after_remove a shard

-- an entry that doesn't fit changes nothing
abbrev pub unless_void : Option Reason → Agreement → Agreement → Agreement
unless_void None before after = after
unless_void (Some reason) before after = before

-- one entry more
abbrev pub applied : Agreement → Entry → Agreement
applied a entry = record (unless_void (fault_of a entry) a (after_entry a entry)) { slots = a.slots + 1 }

-- what a list of entries has agreed on, from the first window on
abbrev pub applied_all : Agreement → List Entry → Agreement
applied_all a [] = a
applied_all a (entry ∷ entries) = applied_all (applied a entry) entries

abbrev pub fold_of : Window → List Entry → Agreement
fold_of first = applied_all (agreement_from first)

-- where an entry is a table, it has 1 to 1,024 rounds and the rows of a table
abbrev pub HasValidTable : Entry → Type 0
HasValidTable Nothing = Unit {0}
HasValidTable (Cut window round) = Unit {0}
HasValidTable (Table after rounds rows) = (1 ≤ rounds) × (rounds ≤ 1024) × IsTable rows
HasValidTable (Remove window shard) = Unit {0}

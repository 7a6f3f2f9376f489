-- What a sequencer would propose in the next slot.
use Rattle.std.specs.Prelude.{ℕ, ◌+◌, ◌*◌, ◌==◌, Bool, ◌&&◌, ◌||◌, nat_le, nat_lt, is_some, is_none, if◌then◌else◌, List, length, Option, Some, None, slice_get}
use Rattle.std.specs.Option.{option_map, option_or}
use Rattle.fix_ante.specs.Windows.{rows_of}
use Rattle.lag_fix.specs.declared.wanted.Wanted.{Wanted}
use Rattle.lag_fix.specs.Lags.{lagging_of, is_uncovered}
use Rattle.cut_core.specs.Agreements.{Agreement}
use Rattle.majority.specs.Acceptors.{AcceptorState}
use Rattle.node_rules.specs.Names.{Entry, Command}
use Rattle.node_rules.specs.Names.entries
use Rattle.node_rules.specs.Names.commands
use Rattle.seq_node.specs.States.{SequencerState, lengths_of, acceptor_at}

-- the rows of the current window whose shards are short of the round that is next
abbrev pub lagging_rows : Agreement → SequencerState → List Wanted
lagging_rows a s = lagging_of a.current.spots a.rounds (lengths_of s)

-- some shard has records past the covered rounds
abbrev pub has_uncovered : Agreement → SequencerState → Bool
has_uncovered a s = is_uncovered a.current.spots a.rounds (lengths_of s)

-- ---- the values, each where it is there

-- the entry that a command asks for, in the current window
abbrev pub entry_of : ℕ → Command → Entry
entry_of window (commands.Table rounds rows) = entries.Table window rounds rows
entry_of window (commands.Remove shard) = entries.Remove window shard

-- the first wish
abbrev pub wished_value : Agreement → SequencerState → Option Entry
wished_value a s = option_map (entry_of a.current.number) (slice_get s.wishes 0)

-- the same table again: nothing is granted, half of the window's rounds or more are covered or next, and there is need
abbrev pub renewal_is_due : Agreement → SequencerState → Bool
renewal_is_due a s = is_none a.granted && (nat_le a.current.rounds (2 * (a.rounds + 1)) && has_uncovered a s)

abbrev pub renewal : Agreement → SequencerState → Option Entry
renewal a s =
    if renewal_is_due a s then Some (entries.Table a.current.number a.current.rounds (rows_of a.current.spots)) else None

-- the next round: every shard has its records of it, there is need, and it isn't the last one or a window is granted
abbrev pub cut_is_due : Agreement → SequencerState → Bool
cut_is_due a s =
    (length (lagging_rows a s) == 0) && (has_uncovered a s && (nat_lt (a.rounds + 1) a.current.rounds || is_some a.granted))

abbrev pub cut : Agreement → SequencerState → Option Entry
cut a s = if cut_is_due a s then Some (entries.Cut a.current.number a.rounds) else None

-- a promise or an acceptance was given
abbrev pub is_touched : AcceptorState Entry → Bool
is_touched acceptor = is_some acceptor.promised || is_some acceptor.accepted

-- nothing, to end what another began at the slot
abbrev pub filler : ℕ → SequencerState → Option Entry
filler slot s = if is_touched (acceptor_at s slot) then Some entries.Nothing else None

-- the first that is there: the first wish, the renewal, the cut, the filler
abbrev pub value_for : Agreement → SequencerState → Option Entry
value_for a s = option_or (wished_value a s) (option_or (renewal a s) (option_or (cut a s) (filler a.slots s)))

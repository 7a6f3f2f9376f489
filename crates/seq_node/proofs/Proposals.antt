-- What a sequencer would propose is valid.
use Rattle.std.proofs.Common.{ℕ, ◌≤◌, Bool, true, false, List, [], ◌∷◌, Option, Some, None, option_map, arith}
use Rattle.std.specs.Prelude.{if◌then◌else◌, slice_get}
use Rattle.std.specs.List.{AllByRecursion}
use Rattle.std.specs.Option.{option_or}
use Rattle.fix_ante.specs.Windows.{rows_of}
use Rattle.quota_table.specs.Entries.{IsValidEntry}
use Rattle.msg_wire.specs.Valid.{IsValidCommand}
use Rattle.node_rules.specs.Names.{Entry, Command}
use Rattle.node_rules.specs.Names.entries
use Rattle.node_rules.specs.Names.commands
use Rattle.node_rules.specs.Nodes.{Base, Node, agreed_by}
use Rattle.node_rules.specs.Sound.{IsBase}
use Rattle.seq_node.specs.States.{SequencerState, acceptor_at}
use Rattle.seq_node.specs.Values.{entry_of, wished_value, renewal_is_due, renewal, cut_is_due, cut, is_touched, filler, value_for}
use Rattle.seq_node.specs.Sound.{MayBeValid, IsOrderly}
use Rattle.node_rules.proofs.Limits.{agreed_sound}
use Rattle.seq_node.proofs.Limits.{number_limit}

may_if : (b : Bool) (entry : Entry) → IsValidEntry entry → MayBeValid (if b then Some entry else None)
may_if true entry valid = valid
may_if false entry valid = tt

-- what holds of both choices holds of the first that is there
pub on_first : (P : Option Entry → Type 0) (first second : Option Entry) → P first → P second → P (option_or first second)
on_first P None second one other = other
on_first P (Some entry) second one other = one

valid_entry_of : (window : ℕ) (command : Command) → window ≤ 1000000 → IsValidCommand command → IsValidEntry (entry_of window command)
valid_entry_of window (commands.Table rounds rows) number valid = (number, valid.0, valid.1)
valid_entry_of window (commands.Remove shard) number valid = (number, valid)

valid_first : (window : ℕ) (wishes : List Command) → window ≤ 1000000 → AllByRecursion IsValidCommand wishes
    → MayBeValid (option_map (entry_of window) (slice_get wishes 0))
valid_first window [] number valid = tt
valid_first window (command ∷ wishes) number valid = valid_entry_of window command number valid.0

valid_wish : (n : Node SequencerState) → IsOrderly n → MayBeValid (wished_value (agreed_by n.base) n.own)
valid_wish n is = valid_first (agreed_by n.base).current.number n.own.wishes (number_limit n.base is.base) is.own.wishes.each

valid_renewal : (b : Base) (s : SequencerState) → IsBase b → MayBeValid (renewal (agreed_by b) s)
valid_renewal b s is =
    let window = (agreed_sound b is).window in
    may_if (renewal_is_due (agreed_by b) s) (entries.Table (agreed_by b).current.number (agreed_by b).current.rounds (rows_of (agreed_by b).current.spots))
    (number_limit b is, (window.some, window.most), window.table)

valid_cut : (b : Base) (s : SequencerState) → IsBase b → MayBeValid (cut (agreed_by b) s)
valid_cut b s is =
    let sound = agreed_sound b is in
    may_if (cut_is_due (agreed_by b) s) (entries.Cut (agreed_by b).current.number (agreed_by b).rounds) (number_limit b is, omega (arith, sound.short, sound.window.most))

valid_filler : (slot : ℕ) (s : SequencerState) → MayBeValid (filler slot s)
valid_filler slot s = may_if (is_touched (acceptor_at s slot)) entries.Nothing tt

pub valid_value : (n : Node SequencerState) → IsOrderly n → MayBeValid (value_for (agreed_by n.base) n.own)
valid_value n is =
    on_first MayBeValid (wished_value (agreed_by n.base) n.own) _ (valid_wish n is)
    (on_first MayBeValid (renewal (agreed_by n.base) n.own) _ (valid_renewal n.base n.own is.base)
    (on_first MayBeValid (cut (agreed_by n.base) n.own) _ (valid_cut n.base n.own is.base) (valid_filler (agreed_by n.base).slots n.own)))

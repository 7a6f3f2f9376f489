-- A sequencer's rules, one for each kind of message, for a command and for a tick.
use Rattle.std.specs.Prelude.{ℕ, ◌+◌, ◌*◌, ◌&&◌, nat_le, nat_lt, min, is_some, is_none, if◌then◌else◌, [], ◌∷◌, ◌++◌, length, slice_get}
use Rattle.std.specs.List.{fold}
use Rattle.std.specs.Option.{option_map_or}
use Rattle.lag_fix.specs.declared.wanted.Wanted.{Wanted}
use Rattle.majority.specs.Acceptors.{prepare_answer, after_prepare, accept_answer, after_accept}
use Rattle.majority.specs.declared.answers.PrepareAnswer.{PrepareAnswer}
use Rattle.majority.specs.declared.answers.PrepareAnswer.TheVariants as prepare
use Rattle.majority.specs.declared.answers.AcceptAnswer.{AcceptAnswer}
use Rattle.majority.specs.declared.answers.AcceptAnswer.TheVariants as accept
use Rattle.msg_wire.specs.Nodes.{number_of}
use Rattle.node_rules.specs.Names.{NodeId, Entry, Command}
use Rattle.node_rules.specs.Names.items
use Rattle.node_rules.specs.Names.whats
use Rattle.node_rules.specs.Acting.{acting}
use Rattle.node_rules.specs.Turns.{Turn, me_of, own_of, known_of, count_known, agreed, put_own, store, send}
use Rattle.node_rules.specs.Rules.{tick}
use Rattle.seq_node.specs.States.{SequencerState, acceptor_at, with_acceptor, with_report, with_idle}
use Rattle.seq_node.specs.Values.{lagging_rows, has_uncovered}
use Rattle.seq_node.specs.Attempts.{begin}

-- a slot whose entry is known: the entry goes back, with the own count
abbrev pub tell : NodeId → ℕ → Turn SequencerState → Turn SequencerState
tell to slot t = option_map_or (λ entry. send to (whats.Decided slot (count_known t) entry) t) (slice_get (known_of t) slot) t

-- Learn: what is known is told
abbrev pub hear_learn : NodeId → ℕ → Turn SequencerState → Turn SequencerState
hear_learn from slot t = if nat_lt slot (count_known t) then tell from slot t else t

-- ---- Prepare

abbrev pub prepare_answered : PrepareAnswer Entry → NodeId → ℕ → ℕ → Turn SequencerState → Turn SequencerState
prepare_answered (prepare.Lower promised) from slot ballot t = t
prepare_answered (prepare.Promised report) from slot ballot t =
    send from (whats.Promise slot ballot report)
    (store (items.Promised slot ballot) (put_own (with_acceptor slot (after_prepare ballot (acceptor_at (own_of t) slot)) (own_of t)) t))

-- Prepare: a known slot is told; where the acceptor promises, that is stored and goes back
abbrev pub hear_prepare : NodeId → ℕ → ℕ → Turn SequencerState → Turn SequencerState
hear_prepare from slot ballot t =
    if nat_lt slot (count_known t) then tell from slot t
    else prepare_answered (prepare_answer ballot (acceptor_at (own_of t) slot)) from slot ballot t

-- ---- Accept

abbrev pub accept_answered : AcceptAnswer → NodeId → ℕ → ℕ → Entry → Turn SequencerState → Turn SequencerState
accept_answered (accept.Lower promised) from slot ballot entry t = t
accept_answered accept.Taken from slot ballot entry t =
    send from (whats.Accepted slot ballot)
    (store (items.Accepted slot ballot entry) (put_own (with_acceptor slot (after_accept ballot entry (acceptor_at (own_of t) slot)) (own_of t)) t))

-- Accept: a known slot is told; where the acceptor takes it, that is stored and goes back
abbrev pub hear_accept : NodeId → ℕ → ℕ → Entry → Turn SequencerState → Turn SequencerState
hear_accept from slot ballot entry t =
    if nat_lt slot (count_known t) then tell from slot t
    else accept_answered (accept_answer ballot (acceptor_at (own_of t) slot)) from slot ballot entry t

-- Report: the greatest length is kept
abbrev pub hear_report : NodeId → ℕ → Turn SequencerState → Turn SequencerState
hear_report from len t = put_own (with_report from len (own_of t)) t

-- ---- Command

-- a wish is put last; where 16 stand already it is passed over
abbrev pub with_wish : Command → SequencerState → SequencerState
with_wish command s = if nat_lt (length s.wishes) 16 then record s { wishes = s.wishes ++ command ∷ [] } else s

-- it begins where no attempt stands
abbrev pub begin_if_free : Turn SequencerState → Turn SequencerState
begin_if_free t = if is_none (own_of t).attempt then begin t else t

-- Command: a wish more, and a beginning
abbrev pub take_command : Command → Turn SequencerState → Turn SequencerState
take_command command t = begin_if_free (put_own (with_wish command (own_of t)) t)

-- ---- Tick

-- the acting replica of a row that lags is asked to fill its log up
abbrev pub fill : Turn SequencerState → Wanted → Turn SequencerState
fill t wanted = send (acting (agreed t) wanted.shard) (whats.Fill wanted.len) t

-- where there is need, each row that lags is to be filled up
abbrev pub fill_lagging : Turn SequencerState → Turn SequencerState
fill_lagging t = if has_uncovered (agreed t) (own_of t) then fold fill t (lagging_rows (agreed t) (own_of t)) else t

-- one more idle tick, up to 255
abbrev pub idle_longer : Turn SequencerState → Turn SequencerState
idle_longer t = put_own (with_idle (min ((own_of t).idle + 1) 255) (own_of t)) t

-- how long sequencer i waits before it begins: 3 ticks for each sequencer before it
abbrev pub patience : Turn SequencerState → ℕ
patience t = 3 * number_of (me_of t)

-- without an attempt it fills and begins once it waited long enough, with one it begins anew after 3 ticks more
abbrev pub begin_when_idle : Turn SequencerState → Turn SequencerState
begin_when_idle t =
    if is_none (own_of t).attempt && nat_le (patience t) (own_of t).idle then begin (fill_lagging t)
    else if is_some (own_of t).attempt && nat_le (patience t + 3) (own_of t).idle then begin t
    else t

-- Tick
abbrev pub on_tick : Turn SequencerState → Turn SequencerState
on_tick t = begin_when_idle (idle_longer (tick t))

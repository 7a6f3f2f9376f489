-- The rules of every node. What a kind of node does at a learned entry is a rule of that kind, given what was agreed before it.
use Rattle.std.specs.Prelude.{ℕ, ◌==◌, nat_lt, if◌then◌else◌}
use Rattle.std.specs.Option.{option_map_or}
use Rattle.cut_core.specs.Agreements.{Agreement}
use Rattle.node_rules.specs.Names.{NodeId, Entry, Message, What}
use Rattle.node_rules.specs.Names.items
use Rattle.node_rules.specs.Names.whats
use Rattle.msg_wire.specs.Heeded.{is_heeded}
use Rattle.node_rules.specs.Nodes.{knowing, seeing, ticking, has_slot, asked_by}
use Rattle.node_rules.specs.Turns.{Turn, cfg_of, me_of, count_known, agreed, put_base, store, send}

-- a message that comes: one that isn't heeded does nothing by itself
abbrev pub heed : {S : Type 0} → (NodeId → What → Turn S → Turn S) → Message → Turn S → Turn S
heed rule m t = if is_heeded (cfg_of t) (me_of t) m then rule m.from m.what t else t

-- ---- a learned entry

-- the entry that is next is stored and known
abbrev pub learned : {S : Type 0} → Entry → Turn S → Turn S
learned entry t = put_base (knowing entry t.state.base) (store (items.Known entry) t)

-- and then the kind's rule follows
abbrev pub learn : {S : Type 0} → (Agreement → Entry → Turn S → Turn S) → Entry → Turn S → Turn S
learn on_learned entry t = on_learned (agreed t) entry (learned entry t)

-- ---- Learn, from the asking side

-- asks a sequencer for the entry that is next; where all slots are known there is none
abbrev pub ask : {S : Type 0} → NodeId → Turn S → Turn S
ask to t = if has_slot t.state.base then send to (whats.Learn (count_known t)) t else t

-- ---- Decided

-- the greatest count that the node was told of
abbrev pub with_seen : {S : Type 0} → ℕ → Turn S → Turn S
with_seen count t = put_base (seeing count t.state.base) t

-- the entry is learned where its slot is the next
abbrev pub learn_next : {S : Type 0} → (Agreement → Entry → Turn S → Turn S) → ℕ → Entry → Turn S → Turn S
learn_next on_learned slot entry t = if slot == count_known t then learn on_learned entry t else t

-- more is known elsewhere: it asks on
abbrev pub ask_on : {S : Type 0} → NodeId → Turn S → Turn S
ask_on from t = if nat_lt (count_known t) t.state.base.seen then ask from t else t

-- Decided: a sequencer tells the entry of a slot, and how many it knows
abbrev pub decided : {S : Type 0} → (Agreement → Entry → Turn S → Turn S) → NodeId → ℕ → ℕ → Entry → Turn S → Turn S
decided on_learned from slot count entry t = ask_on from (learn_next on_learned slot entry (with_seen count t))

-- ---- Tick, before the node's own rules

-- a tick is counted
abbrev pub with_tick : {S : Type 0} → Turn S → Turn S
with_tick t = put_base (ticking t.state.base) t

-- Tick: it asks for the next entry, and counts
abbrev pub tick : {S : Type 0} → Turn S → Turn S
tick t = with_tick (option_map_or (λ to. ask to t) (asked_by t.state.base) t)

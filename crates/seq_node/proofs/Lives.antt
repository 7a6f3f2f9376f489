-- Every life of valid events: its node is in order, its steps are valid, and its stored items give what a restart leaves; and what the
-- items of any vault give is a sequencer, with no attempt.
use Rattle.std.proofs.Common.{List, refl, sym, ◌≡◌, ◌<◌, ℕ, [], ◌∷◌, Option, Some, None, subst}
use Rattle.std.specs.List.{AllByRecursion, fold}
use Rattle.msg_wire.specs.Valid.{IsValidConfig, IsNodeOf, IsValidEvent, IsBallot, IsValidItem, AreValidItems}
use Rattle.node_rules.specs.Names.{NodeId, Config, Event, Entry, Item}
use Rattle.node_rules.specs.Nodes.{Node, knowing, has_slot}
use Rattle.node_rules.specs.Lives.{life_of}
use Rattle.node_rules.proofs.Kept.{IsKept, IsLife, lives, kept_valid, keeping}
use Rattle.seq_node.specs.States.{SequencerState, acceptor_at}
use Rattle.seq_node.specs.Steps.{sequencer_step}
use Rattle.seq_node.specs.Restart.{fresh_node, fit, fit_acceptor, restart_of}
use Rattle.seq_node.specs.Laws.{RestartIsTheItems, StepsAreValid}
use Rattle.seq_node.proofs.Orderly.{fresh_sound, acceptor_valid, acceptor_changed}
use Rattle.seq_node.proofs.Places.{sequencer_places}
use Rattle.seq_node.proofs.Walk.{sequencer_walk}
use Rattle.seq_node.proofs.Keeps.{IsOrderlyAs, sequencer_keeping, sequencer_keeps}
use Rattle.std.specs.Prelude.{IsTrue}
use Rattle.majority.specs.Ballots.{greater_promise}
use Rattle.majority.specs.Acceptors.{AcceptorState, prepare_answer_unless, after_prepare_answer, after_prepare, accept_answer_unless, after_accept_answer, after_accept}
use Rattle.quota_table.specs.Entries.{IsValidEntry}
use Rattle.msg_wire.specs.Nodes.{is_sequencer}
use Rattle.node_rules.specs.Names.items
use Rattle.node_rules.proofs.Lists.{on_test}
use Rattle.node_rules.proofs.Limits.{base_knowing}
use Rattle.seq_node.specs.Sound.{IsAcceptor, MayBeAttempt, IsOrderly, IsSequencer}

pub kept_step : (P : NodeId → Type 0) (n : Node SequencerState) (event : Event) → IsOrderlyAs P n → IsValidEvent event
    → IsKept (sequencer_keeping P) n (sequencer_step n event)
kept_step P n event is valid = sequencer_walk (keeping sequencer_places (sequencer_keeping P) n event (sequencer_keeps n event valid P) valid is)

-- nothing more of its name
abbrev any : NodeId → Type 0
any me = Unit {0}

life : (cfg : Config) (me : NodeId) (events : List Event) → IsValidConfig cfg → IsNodeOf cfg me → AllByRecursion IsValidEvent events
    → IsLife (sequencer_keeping any) (fresh_node cfg me) (life_of sequencer_step (fresh_node cfg me) events)
life cfg me events valid here each = lives (sequencer_keeping any) sequencer_step (fresh_node cfg me) events (kept_step any) (fresh_sound cfg me valid here, tt) refl each

pub restart_is_the_items : RestartIsTheItems
restart_is_the_items cfg me events valid here each = sym (life cfg me events valid here each).leads

pub steps_are_valid : StepsAreValid
steps_are_valid cfg me events event valid here each next =
    kept_valid (sequencer_keeping any) _ _ (kept_step any (life_of sequencer_step (fresh_node cfg me) events).node event (life cfg me events valid here each).is next)

-- ---- the items of a vault

-- in order, and without an attempt
record IsAtRest (n : Node SequencerState) : Type 0 where
  orderly : IsOrderly n
  none : n.own.attempt ≡ None
  kind : IsTrue (is_sequencer n.base.me)

valid_after_prepare : (greater : Option ℕ) (ballot : ℕ) (own : AcceptorState Entry) → IsAcceptor own
    → IsAcceptor (after_prepare_answer (prepare_answer_unless greater own) ballot own)
valid_after_prepare (Some p) ballot own valid = valid
valid_after_prepare None ballot own valid = valid

valid_after_accept : (greater : Option ℕ) (ballot : ℕ) (entry : Entry) (own : AcceptorState Entry) → IsBallot ballot → IsValidEntry entry → IsAcceptor own
    → IsAcceptor (after_accept_answer (accept_answer_unless greater) ballot entry own)
valid_after_accept (Some p) ballot entry own small good valid = valid
valid_after_accept None ballot entry own small good valid = (small, good)

rest_acceptor : (n : Node SequencerState) (slot : ℕ) (change : AcceptorState Entry → AcceptorState Entry) → slot < 1000000
    → IsAcceptor (change (acceptor_at n.own slot)) → IsAtRest n
    → IsAtRest (fit_acceptor slot change n)
rest_acceptor n slot change low valid is = record { orderly = acceptor_changed n slot (change (acceptor_at n.own slot)) is.orderly low valid; none = is.none; kind = is.kind }

rest : (n : Node SequencerState) (item : Item) → IsValidItem item → IsAtRest n → IsAtRest (fit n item)
rest n (items.Known entry) valid is =
    on_test IsAtRest (has_slot n.base) (record n { base = knowing entry n.base }) n
    (λ slot. record {
      orderly = record { base = base_knowing entry n.base valid slot is.orderly.base; own = is.orderly.own; attempt = subst (MayBeAttempt _ _ _ _) (sym is.none) tt };
      none = is.none;
      kind = is.kind;
    })
    (λ _. is)
rest n (items.Promised slot ballot) valid is =
    rest_acceptor n slot (after_prepare ballot) valid.0
    (valid_after_prepare (greater_promise (acceptor_at n.own slot).promised ballot) ballot (acceptor_at n.own slot) (acceptor_valid n.own slot is.orderly.own)) is
rest n (items.Accepted slot ballot entry) valid is =
    rest_acceptor n slot (after_accept ballot entry) valid.0
    (valid_after_accept (greater_promise (acceptor_at n.own slot).promised ballot) ballot entry (acceptor_at n.own slot) valid.1 valid.2 (acceptor_valid n.own slot is.orderly.own)) is
rest n _ valid is = is

rests : (n : Node SequencerState) (stored : List Item) → AreValidItems stored → IsAtRest n → IsAtRest (fold fit n stored)
rests n [] valid is = is
rests n (item ∷ stored) valid is = rests (fit n item) stored valid.1 (rest n item valid.0 is)

pub restarted_is : (cfg : Config) (me : NodeId) (stored : List Item) → IsValidConfig cfg → IsNodeOf cfg me → IsTrue (is_sequencer me) → AreValidItems stored
    → IsSequencer (restart_of cfg me stored)
restarted_is cfg me stored valid here kind good =
    let is = rests (fresh_node cfg me) stored good (record { orderly = fresh_sound cfg me valid here; none = refl; kind = kind }) in
    record { orderly = is.orderly; kind = is.kind }

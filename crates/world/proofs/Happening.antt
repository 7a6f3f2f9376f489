-- What a player has stays true of it, entry after entry.
use Rattle.std.proofs.Common.{◌≡◌, ℕ, Bool, false, List, [], ◌∷◌, ◌++◌, ◌<◌, length, map, replicate, Option, Some, refl, sym, ap, ◌∙◌, subst, slice_index_or, arith}
use Rattle.std.specs.Prelude.{slice_set, IsSomeAnd}
use Rattle.std.specs.List.{slice_get}
use Rattle.std.proofs.lemmas.Option.{slice_get_within, slice_get_read, get_or_from_slice_get}
use Rattle.std.proofs.lemmas.List.{length-append, length-replicate, reverse-append}
use Rattle.world.specs.inside.Names.{nodes_of, step_at, entry_made, rank_of, Parts, AreParts, shown_by}
use Rattle.msg_wire.specs.Valid.{IsValidConfig, IsValidMessage}
use Rattle.msg_wire.specs.Steps.{AreValidMessages, IsValidStep}
use Rattle.net_model.specs.Pasts.{Past, past_of, sent}
use Rattle.node_rules.proofs.Lists.{all_append, all_at}
use Rattle.world.specs.declared.any_node.AnyNode.{AnyNode}
use Rattle.node_rules.specs.Turns.{empty_step}
use Rattle.runs.specs.Names.{NodeId, Config, Message, Item, Event, Step, HistoryEntry}
use Rattle.runs.specs.Names.nodes
use Rattle.runs.specs.Names.events
use Rattle.world.specs.AnyNodes.{fresh_any, gives_any, leaves_any, is_spent_any, node_after}
use Rattle.world.specs.inside.PlayerSteps.{PlayerState, happens, IsPlayerOf, CanTake}
use Rattle.world.proofs.Lists.{map_same}
use Rattle.runs.proofs.SameNodes.{node_itself}
use Rattle.world.proofs.After.{gives_after, ready_after}
use Rattle.world.proofs.NodesAfter.{node_there, nodes_after}
use Rattle.node_rules.proofs.Within.{GoesWithin}
use Rattle.world.proofs.WithinRuns.{sent_within}

-- ---- at the start

starts : (c : Config) (node : NodeId) → fresh_any c node ≡ node_after c [] node
starts c (nodes.Seq n) = refl
starts c (nodes.Shard n side) = refl
starts c (nodes.Client n) = refl
starts c (nodes.Consumer n) = refl

pub nothing_happened : (c : Config) (made : List AnyNode) → IsValidConfig c → made ≡ map (fresh_any c) (nodes_of c) → IsPlayerOf c [] made []
nothing_happened c made valid fresh = record {
  cfg = valid;
  run = tt;
  commands = tt;
  messages = tt;
  nodes_are = fresh ∙ map_same (fresh_any c) (node_after c []) (nodes_of c) (λ j node _. starts c node);
  flags = refl;
}

-- ---- one entry more

abbrev sends_of : Config → Past → NodeId → Event → List Message
sends_of c past node event = (step_at c node past event).sends

pub happened : (c : Config) (past : Past) (made : List AnyNode) (settled : List Bool) (node : NodeId) (event : Event)
    → IsPlayerOf c past made settled → CanTake c past node event → AreValidMessages (step_at c node past event).sends
    → IsPlayerOf c (entry_made c past node event ∷ past) (slice_set made (rank_of c node) (leaves_any (node_after c past node) event))
    (settled ++ replicate (length (step_at c node past event).sends) false)
happened c past made settled node event is can valid = record {
  cfg = is.cfg;
  run = (record { within = can.within; valid = can.valid; taken_there = can.taken_there; comes = can.comes; sends = refl; shows = refl }, is.run);
  commands = (can.command, is.commands);
  messages = all_append IsValidMessage (sent past) (sends_of c past node event) is.messages valid;
  nodes_are =
      ap (λ (all : List AnyNode). slice_set all (rank_of c node) (leaves_any (node_after c past node) event)) is.nodes_are
      ∙ nodes_after c (entry_made c past node event) past is.cfg can.within is.run (node_itself node);
  flags =
      omega (arith, is.flags, length-append settled (replicate (length (sends_of c past node event)) false), length-replicate (length (sends_of c past node event)) false, length-append (sent past) (sends_of c past node event));
}

-- ---- in a player

-- the parts of what is played, each by another name
pub along : (c : Config) (past past' : Past) (made made' : List AnyNode) (settled settled' : List Bool) → past' ≡ past → made' ≡ made → settled' ≡ settled
    → IsPlayerOf c past made settled → IsPlayerOf c past' made' settled'
along c past past' made made' settled settled' pasts nodes flags is =
    subst (λ (x : Past). IsPlayerOf c x made' settled') (sym pasts)
    (subst (λ (x : List AnyNode). IsPlayerOf c past x settled') (sym nodes)
    (subst (λ (x : List Bool). IsPlayerOf c past made x) (sym flags) is))

-- a player of these parts is shown as that, and a node of it can take an event
pub record Begins (s : PlayerState) (i : Parts) (node : NodeId) (event : Event) : Type 0 where
  pub known : AreParts i
  pub view : shown_by i ≡ s
  pub can : CanTake i.cfg (past_of i.history) node event

pub begins : (s : PlayerState) (i whole : Parts) (node : NodeId) (event : Event) → i ≡ whole → AreParts whole → shown_by whole ≡ s
    → CanTake s.cfg s.past node event → Begins s i node event
begins s i whole node event same are view can =
    let shown : shown_by i ≡ s = ap shown_by same ∙ view in
    record { known = subst AreParts (sym same) are; view = shown; can = subst (λ (k : PlayerState). CanTake k.cfg k.past node event) (sym shown) can }

-- a message that was sent can be taken by the node that it was sent to
pub begins_message : (s : PlayerState) (i whole : Parts) (messages : List Message) (number : ℕ) (m : Message) → i ≡ whole → AreParts whole → shown_by whole ≡ s
    → messages ≡ sent (past_of i.history) → number < length (sent s.past) → m ≡ slice_index_or messages number m
    → Begins s i m.to (events.Deliver m) × (slice_get (sent (past_of i.history)) number ≡ Some m)
begins_message s i whole messages number m same are view named sent_one is =
    let known : AreParts i = subst AreParts (sym same) are in
    let played = known.played in
    let shown : shown_by i ≡ s = ap shown_by same ∙ view in
    let all : List Message = sent (past_of i.history) in
    let within : number < length messages = subst (λ (xs : List Message). number < length xs) (ap (λ (k : PlayerState). sent k.past) (sym shown) ∙ sym named) sent_one in
    let there : slice_get all number ≡ Some m = ap (λ (xs : List Message). slice_get xs number) (sym named) ∙ slice_get_read messages (length messages) number m refl within is in
    let can : CanTake i.cfg (past_of i.history) m.to (events.Deliver m) = record {
      within = (all_at (GoesWithin i.cfg) all number m (sent_within i.cfg (past_of i.history) played.cfg played.run played.commands) there).to;
      valid = all_at IsValidMessage all number m played.messages there;
      taken_there = tt;
      comes = (refl, (number, slice_get_within all number m there, get_or_from_slice_get all number m m there));
      command = tt;
    } in
    (record { known = known; view = shown; can = can }, there)

module _ {s : PlayerState} {i : Parts} {node : NodeId} {event : Event} (b : Begins s i node event) (place : ℕ) (at : place ≡ rank_of i.cfg node) where
  -- the node stands at its place
  stands_there : slice_get i.nodes.items place ≡ Some (node_after i.cfg (past_of i.history) node)
  stands_there =
      ap (λ (all : List AnyNode). slice_get all place) b.known.played.nodes_are
      ∙ ap (slice_get (map (node_after i.cfg (past_of i.history)) (nodes_of i.cfg))) at
      ∙ node_there i.cfg (past_of i.history) node b.can.within

  -- and is ready
  pub ready_there : IsSomeAnd (slice_get i.nodes.items place) (λ n. is_spent_any n ≡ false)
  ready_there = subst (λ (o : Option AnyNode). IsSomeAnd o (λ n. is_spent_any n ≡ false)) (sym stands_there) (ready_after i.cfg node (past_of i.history))

  -- what the calls of its step leave is played by the cluster, and shown as what the event makes of the player
  pub has_happened : (out : Step) (sends : ℕ) (history : List HistoryEntry) (made : List AnyNode) (settled : List Bool)
      → IsSomeAnd (slice_get i.nodes.items place) (λ n. out ≡ gives_any n event)
      → IsSomeAnd (slice_get i.nodes.items place) (λ n. made ≡ slice_set i.nodes.items place (leaves_any n event))
      → IsValidStep out
      → history ≡ i.history ++ record { node = node; event = event; sends = out.sends; marks = out.marks } ∷ []
      → sends ≡ length out.sends
      → settled ≡ i.outbox ++ replicate sends false
      → IsPlayerOf i.cfg (past_of history) made settled × (record { cfg = i.cfg; past = past_of history; settled = settled; turn = i.turn } ≡ happens node event s)
  has_happened out sends history made settled gives leaves valid entry many put =
      let past : Past = past_of i.history in
      let e : HistoryEntry = entry_made i.cfg past node event in
      let gives_at : Option AnyNode → Type 0 = λ o. IsSomeAnd o (λ n. out ≡ gives_any n event) in
      let leaves_at : Option AnyNode → Type 0 = λ o. IsSomeAnd o (λ n. made ≡ slice_set i.nodes.items place (leaves_any n event)) in
      let same : out ≡ step_at i.cfg node past event = subst gives_at stands_there gives ∙ gives_after i.cfg node past event in
      let nodes : made ≡ slice_set i.nodes.items (rank_of i.cfg node) (leaves_any (node_after i.cfg past node) event) =
      subst leaves_at stands_there leaves ∙ ap (λ (k : ℕ). slice_set i.nodes.items k (leaves_any (node_after i.cfg past node) event)) at in
      let pasts : past_of history ≡ e ∷ past =
      ap past_of entry ∙ reverse-append i.history (record { node = node; event = event; sends = out.sends; marks = out.marks } ∷ [])
      ∙ ap (λ (o : Step). record { node = node; event = event; sends = o.sends; marks = o.marks } ∷ past) same in
      let flags : settled ≡ i.outbox ++ replicate (length e.sends) false =
      put ∙ ap (λ (n : ℕ). i.outbox ++ replicate n false) many ∙ ap (λ (o : Step). i.outbox ++ replicate (length o.sends) false) same in
      let player : Past → List Bool → PlayerState = λ past flags. record { cfg = i.cfg; past = past; settled = flags; turn = i.turn } in (
        along i.cfg (e ∷ past) (past_of history) _ made _ settled pasts nodes flags
            (happened i.cfg past i.nodes.items i.outbox node event b.known.played b.can (subst (λ (o : Step). AreValidMessages o.sends) same valid.sends)),
        ap (λ (past : Past). player past settled) pasts ∙ ap (player (e ∷ past)) flags ∙ ap (happens node event) b.view,
      )

-- ---- between calls

-- a step whose sends and marks are moved and whose items are dropped gives nothing
pub emptied : (out moved : Step) (stable : List Item) → moved ≡ record { stable = out.stable; sends = []; marks = [] } → stable ≡ []
    → record { stable = stable; sends = moved.sends; marks = moved.marks } ≡ empty_step
emptied out moved stable is clear =
    let storing : List Item → Step → Step = λ items step. record { stable = items; sends = step.sends; marks = step.marks } in
    ap (λ (items : List Item). storing items moved) clear ∙ ap (storing []) is

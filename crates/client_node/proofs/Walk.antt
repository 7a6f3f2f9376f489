-- A client's whole step is made of the places of its table.
use Rattle.std.proofs.Common.{◌≡◌, ℕ, ◌+◌, ◌<◌, ◌≤◌, ◌^◌, ◌==◌, ◌&&◌, not, nat_lt, List, refl, sym, subst, ◌∙◌, arith}
use Rattle.std.specs.Prelude.{nat_le}
use Rattle.std.specs.List.{slice_get}
use Rattle.std.proofs.lemmas.Bool.{and_parts, ltb-true, leb-true, eqb-true}
use Rattle.msg_wire.specs.Nodes.{number_of}
use Rattle.node_rules.specs.Names.{NodeId, What, Event}
use Rattle.node_rules.specs.Names.nodes
use Rattle.node_rules.specs.Names.sides
use Rattle.node_rules.specs.Names.items
use Rattle.node_rules.specs.Names.marks
use Rattle.node_rules.specs.Names.whats
use Rattle.node_rules.specs.Names.events
use Rattle.node_rules.specs.Nodes.{Node}
use Rattle.node_rules.specs.Turns.{Turn, started, own_of, put_own, store, send, show}
use Rattle.node_rules.specs.Rules.{tick}
use Rattle.node_rules.proofs.Lists.{on_test, on_option, on_range}
use Rattle.node_rules.proofs.Places.{Comes, Sites}
use Rattle.node_rules.proofs.Walks.{walk_sends, WalksLearned, walk_decided, walk_tick, walk_heed}
use Rattle.client_node.specs.States.{ClientState, count_submitted, home_replicas, is_home_gone, reach, is_in_reach}
use Rattle.client_node.specs.Rules.{append, append_all, ask_fate, with_body, submit, with_ack, hear_ack, on_learned, row_for, move_to, may_move, hear_fate, on_tick}
use Rattle.client_node.specs.Steps.{hear, client_step}
use Rattle.client_node.proofs.Places.{IsHomeGone, sends_body, asks_fate, acknowledged, submits, counts, moves, client_places}

-- a client sends at least one number
some_reach : 1 ≤ reach
unfolding reach
some_reach = omega arith

append_state : (t : Turn ClientState) (number : ℕ) → (append t number).state ≡ t.state
append_state t number = on_option (λ (u : Turn ClientState). u.state ≡ t.state) _ (slice_get (own_of t).bodies number) t (λ body at. refl) refl

module _ {W : Turn ClientState → Type 0} {n : Node ClientState} {event : Event} (s : Sites client_places W n event) where
  walk_append : (t : Turn ClientState) (number : ℕ) → (own_of t).acked ≤ number → number < (own_of t).acked + reach → W t → W (append t number)
  walk_append t number from below w =
      on_option W (λ body. send (nodes.Shard (own_of t).home sides.Primary) (whats.Append (own_of t).first number body) t) (slice_get (own_of t).bodies number) t
      (λ body at. s.says t (nodes.Shard (own_of t).home sides.Primary) (whats.Append (own_of t).first number body) (sends_body number body from below at) w) w

  walk_append_all : (t : Turn ClientState) → W t → W (append_all t)
  walk_append_all t w =
      (on_range (λ u. W u × (u.state ≡ t.state)) append (own_of t).acked reach ((own_of t).acked + reach) t
      (λ u number from below so_far.
      let here : Node ClientState → Type 0 = λ m. (m.own.acked ≤ number) × (number < m.own.acked + reach) in
      let within : here u.state = subst here (sym so_far.1) (from, below) in
      (walk_append u number within.0 within.1 so_far.0, append_state u number ∙ so_far.1))
      (omega arith) (w, refl)).0

  walk_ask_fate : (t : Turn ClientState) → IsHomeGone t.state → W t → W (ask_fate t)
  walk_ask_fate t gone w = walk_sends s (home_replicas t) (whats.AskFate (own_of t).first (own_of t).acked) t (λ i to there. asks_fate to i there gone) w

  walk_submit : (by : ℕ) (body : List ℕ) (t : Turn ClientState) → event ≡ events.Submit by body → W t → W (submit body t)
  walk_submit by body t comes w =
      on_test W (nat_lt (count_submitted t) (2 ^ 48)) _ t
      (λ room.
      let stored : Turn ClientState = put_own (with_body body (own_of t)) (store (items.Submitted body) t) in
      let kept : W stored = s.stores t (items.Submitted body) _ (submits by body comes (ltb-true _ _ room)) w in
      on_test W (is_in_reach (count_submitted t) stored && not (is_home_gone stored)) _ stored
      (λ there.
      let tests = and_parts (nat_le (own_of t).acked (count_submitted t)) (nat_lt (count_submitted t) ((own_of t).acked + reach)) (and_parts (is_in_reach (count_submitted t) stored) (not (is_home_gone stored)) there).0 in
      walk_append stored (count_submitted t) (leb-true _ _ tests.0) (ltb-true _ _ tests.1) kept)
      (λ _. kept))
      (λ _. w)

  walk_ack : (from : NodeId) (number position : ℕ) (t : Turn ClientState) → Comes n event from (whats.Ack number position) → W t
      → W (hear_ack number position t)
  walk_ack from number position t comes w =
      on_test W ((number == (own_of t).acked) && nat_lt number (2 ^ 48)) _ t
      (λ fits.
      let tests = and_parts (number == (own_of t).acked) (nat_lt number (2 ^ 48)) fits in
      let same : number ≡ (own_of t).acked = eqb-true _ _ tests.0 in
      let counted : Turn ClientState = put_own (with_ack (own_of t)) (show (marks.Ack number position) (store items.Acked t)) in
      let kept : W counted =
      s.shows (put_own (with_ack (own_of t)) (store items.Acked t)) (marks.Ack number position) (acknowledged from number position comes (omega (arith, same)))
      (s.stores t items.Acked _ (counts from number position comes same (ltb-true _ _ tests.1)) w) in
      on_test W (is_home_gone counted) _ _ (λ gone. walk_ask_fate counted gone kept)
      (λ _. walk_append counted (number + reach) (omega (arith, same, some_reach)) (omega (arith, same)) kept))
      (λ _. w)

  walk_learned : WalksLearned s on_learned
  walk_learned before entry t learned w = on_test W (is_home_gone t) _ t (λ gone. walk_ask_fate t gone w) (λ _. w)

  walk_fate : (from : NodeId) (next : ℕ) (t : Turn ClientState) → Comes n event from (whats.Fate next) → W t → W (hear_fate from next t)
  walk_fate from next t comes w =
      on_test W (may_move from next t) _ t
      (λ may.
      let home = and_parts (number_of from == (own_of t).home) (is_home_gone t && (next == (own_of t).acked)) may in
      let gone = and_parts (is_home_gone t) (next == (own_of t).acked) home.1 in
      on_option W (λ row. move_to next row t) (row_for t) t
      (λ row at. walk_append_all _ (s.stores t (items.Moved row.shard next) _ (moves from next row comes (eqb-true _ _ home.0) gone.0 (eqb-true _ _ gone.1) at) w)) w)
      (λ _. w)

  walk_on_tick : (t : Turn ClientState) → event ≡ events.Tick → W t → W (on_tick t)
  walk_on_tick t e w =
      let ticked = walk_tick s t e w in
      on_test W (is_home_gone (tick t)) _ _ (λ gone. walk_ask_fate (tick t) gone ticked) (λ _. walk_append_all (tick t) ticked)

  walk_hear : (from : NodeId) (what : What) → Comes n event from what → W (hear from what (started n))
  walk_hear from (whats.Decided slot count entry) comes = walk_decided s on_learned from slot count entry (started n) walk_learned (λ u told. told) comes s.starts
  walk_hear from (whats.Ack number position) comes = walk_ack from number position (started n) comes s.starts
  walk_hear from (whats.Fate next) comes = walk_fate from next (started n) comes s.starts
  walk_hear from _ comes = s.starts

pub client_walk : (W : Turn ClientState → Type 0) (n : Node ClientState) (event : Event) → Sites client_places W n event → W (client_step n event)
client_walk W n (events.Submit by body) s = walk_submit s by body (started n) refl s.starts
client_walk W n (events.Deliver message) s = walk_heed s hear message refl (λ comes. walk_hear s message.from message.what comes)
client_walk W n events.Tick s = walk_on_tick s (started n) refl s.starts
client_walk W n events.Restart s = s.restarts refl
client_walk W n (events.Command command) s = s.starts

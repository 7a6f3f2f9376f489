-- Of every run: a client shows an acknowledgement of each number once, in order, as it counts it.
use Rattle.std.proofs.Common.{◌≡◌, ◌∙◌, ℕ, ◌+◌, ◌^◌, ◌==◌, ◌&&◌, Bool, true, false, nat_lt, List, [], ◌∷◌, ◌++◌, map, length, length-append, refl, sym, ap, subst, arith}
use Rattle.std.specs.Prelude.{IsTrue}
use Rattle.std.specs.List.{range_with_len, slice_get}
use Rattle.std.proofs.lemmas.Bool.{false≢true, and_parts, eqb-true}
use Rattle.std.proofs.lemmas.List.{map-append}
use Rattle.std.proofs.lemmas.List.Elements.{filter_map-append}
use Rattle.std.proofs.lemmas.List.FromFn.{length-range_with_len}
use Rattle.cut_core.proofs.Counts.{dense_more}
use Rattle.msg_wire.specs.Heeded.{is_heeded}
use Rattle.msg_wire.specs.Nodes.{is_client, same_node}
use Rattle.msg_wire.specs.Valid.{IsValidConfig}
use Rattle.net_model.specs.Pasts.{Past, marks_of}
use Rattle.node_rules.specs.Names.{NodeId, Item, Mark, Message, What, Event}
use Rattle.node_rules.specs.Names.nodes
use Rattle.node_rules.specs.Names.sides
use Rattle.node_rules.specs.Names.items
use Rattle.node_rules.specs.Names.marks
use Rattle.node_rules.specs.Names.whats
use Rattle.node_rules.specs.Names.events
use Rattle.node_rules.specs.Nodes.{Node}
use Rattle.node_rules.specs.Turns.{Turn, started, own_of, put_own, store, send, show, step_of}
use Rattle.node_rules.proofs.Lists.{on_test, on_option}
use Rattle.node_rules.proofs.Places.{Comes, unsent_sites}
use Rattle.client_node.specs.States.{ClientState, reach, is_home_gone}
use Rattle.client_node.specs.Rules.{append, ask_fate, with_ack, go_on, acknowledged, hear_ack}
use Rattle.client_node.specs.Steps.{hear, client_step}
use Rattle.client_node.proofs.Places.{Shows, Stores, submits, counts, moves}
use Rattle.client_node.proofs.Places as place
use Rattle.client_node.proofs.Walk.{client_walk}
use Rattle.runs.specs.Names.{Config, HistoryEntry}
use Rattle.runs.specs.Kinds.{step_at}
use Rattle.runs.specs.Marks.{IsCounted, ack_in, acks}
use Rattle.runs.specs.Runs.{IsPastOf}
use Rattle.runs.proofs.SameNodes.{same_node_is, node_itself}
use Rattle.safety_frame.specs.EveryRun.{OfEveryRun}
use Rattle.safety_frame.proofs.NodeKinds.{after, clients}
use Rattle.safety_frame.proofs.Inductions.{every_past}
use Rattle.safety_frame.proofs.Pasts.{own_state, other_state, own_shown, other_shown, of_client, on_own}
use Rattle.safety_marks.specs.Acks.{AckedIsCounted}

-- the numbers that marks acknowledge
abbrev numbers : List Mark → List ℕ
numbers shown = map (λ a. a.0) (acks shown)

numbers_more : (shown more : List Mark) → numbers (shown ++ more) ≡ numbers shown ++ numbers more
numbers_more shown more = ap (map (λ a. a.0)) (filter_map-append ack_in shown more) ∙ map-append (λ a. a.0) (acks shown) (acks more)

-- ---- a step

module _ (n : Node ClientState) where
  -- so many numbers are counted, and shown
  abbrev Counts : ℕ → Turn ClientState → Type 0
  Counts count t = (t.state.own.acked ≡ n.own.acked + count) × (numbers t.marks ≡ range_with_len n.own.acked count)

  none_counted : Counts 0 (started n)
  none_counted = (omega arith, refl)

  went_on : (count number : ℕ) (t : Turn ClientState) → Counts count t → Counts count (go_on number t)
  went_on count number t w =
      on_test (Counts count) (is_home_gone t) (ask_fate t) (append t (number + reach)) (λ _. w)
      (λ _.
      on_option (Counts count) (λ body. send (nodes.Shard (own_of t).home sides.Primary) (whats.Append (own_of t).first (number + reach) body) t)
      (slice_get (own_of t).bodies (number + reach)) t (λ body at. w) w)

  abbrev HasCounted : Turn ClientState → Type 0
  HasCounted t = (count : ℕ) × Counts count t

  after_ack : (number position : ℕ) → HasCounted (hear_ack number position (started n))
  after_ack number position =
      let t : Turn ClientState = started n in
      let next : Turn ClientState = put_own (with_ack (own_of t)) (show (marks.Ack number position) (store items.Acked t)) in
      on_test HasCounted ((number == (own_of t).acked) && nat_lt number (2 ^ 48)) (acknowledged number position t) t
      (λ fits.
      let same : number ≡ n.own.acked = eqb-true _ _ (and_parts (number == (own_of t).acked) (nat_lt number (2 ^ 48)) fits).0 in
      (1, went_on 1 number next (refl, ap (λ (k : ℕ). k ∷ []) same)))
      (λ _. (0, none_counted))

  -- ---- where no acknowledgement comes

  module _ (event : Event) (none : (from : NodeId) (number position : ℕ) → Comes n event from (whats.Ack number position) → ⊥) where
    shown_none : (s : Node ClientState) (mark : Mark) → Shows n event s mark → ⊥
    shown_none s _ (place.acknowledged from number position comes counted) = none from number position comes

    stored_none : (s : Node ClientState) (item : Item) (own : ClientState) → Stores n event s item own → own.acked ≡ s.own.acked
    stored_none s _ _ (submits by body submit room) = refl
    stored_none s _ _ (counts from number position comes next room) = absurd (none from number position comes)
    stored_none s _ _ (moves from next row comes home gone next_is row_is) = refl

    step_none : Counts 0 (client_step n event)
    step_none =
        client_walk _ n event
        (unsent_sites (Counts 0)
        (record {
          starts = none_counted;
          restarts = λ e. none_counted;
          learns = λ t entry why w. w;
          shows = λ t mark why w. absurd (shown_none t.state mark why);
          stores = λ t item own why w. (stored_none t.state item own why ∙ w.0, w.1);
          changes = λ t own why w. absurd why;
        }))

  -- ---- any step

  abbrev is_ack : What → Bool
  is_ack (whats.Ack number position) = true
  is_ack _ = false

  abbrev tells_ack : Event → Bool
  tells_ack (events.Deliver m) = is_ack m.what
  tells_ack _ = false

  untold : (event : Event) → tells_ack event ≡ false → (from : NodeId) (number position : ℕ) → Comes n event from (whats.Ack number position) → ⊥
  untold event other from number position comes =
      let says : is_ack comes.message.what ≡ true = ap is_ack comes.says in
      false≢true (sym other ∙ (ap tells_ack comes.same ∙ says))

  other_event : (event : Event) → tells_ack event ≡ false → HasCounted (client_step n event)
  other_event event other = (0, step_none event (untold event other))

  heard : (from : NodeId) (what : What) → is_ack what ≡ true → HasCounted (hear from what (started n))
  heard from (whats.Ack number position) is = after_ack number position
  heard from _ is = absurd (cc)

  delivered : (m : Message) (b : Bool) → is_ack m.what ≡ b → HasCounted (client_step n (events.Deliver m))
  delivered m true is =
      on_test HasCounted (is_heeded n.base.cfg n.base.me m) (hear m.from m.what (started n)) (started n) (λ _. heard m.from m.what is)
      (λ _. (0, none_counted))
  delivered m false is = other_event (events.Deliver m) is

  step_counts : (event : Event) → HasCounted (client_step n event)
  step_counts (events.Deliver m) = delivered m (is_ack m.what) refl
  step_counts events.Tick = other_event events.Tick refl
  step_counts events.Restart = other_event events.Restart refl
  step_counts (events.Submit by body) = other_event (events.Submit by body) refl
  step_counts (events.Command command) = other_event (events.Command command) refl

-- ---- of every run

module _ (cfg : Config) (valid : IsValidConfig cfg) where
  -- a client's numbers so far, as many as it has counted
  abbrev HasAcked : Past → NodeId → Type 0
  HasAcked past node =
      IsCounted (numbers (marks_of node past)) × ((after clients cfg node past).own.acked ≡ length (numbers (marks_of node past)))

  abbrev AllAcked : Past → Type 0
  AllAcked past = (node : NodeId) → IsTrue (is_client node) → HasAcked past node

  own_acked : (e : HistoryEntry) (past : Past) → IsPastOf cfg (e ∷ past) → IsTrue (is_client e.node) → HasAcked past e.node → HasAcked (e ∷ past) e.node
  own_acked e past run one before =
      let n : Node ClientState = after clients cfg e.node past in
      let earlier : List Mark = marks_of e.node past in
      let shown : List Mark = (clients.step n e.event).marks in
      let step = of_client (λ node. step_at cfg node past e.event ≡ step_of (clients.step (after clients cfg node past) e.event)) (λ k. refl) e.node one in
      let marked : marks_of e.node (e ∷ past) ≡ earlier ++ shown =
      own_shown e.node e past (node_itself e.node) ∙ ap (λ l. earlier ++ l) (run.0.shows ∙ ap (λ s. s.marks) step) in
      let is = step_counts n e.event in
      let all : numbers (marks_of e.node (e ∷ past)) ≡ numbers earlier ++ numbers shown = ap numbers marked ∙ numbers_more earlier shown in
      let more : length (numbers earlier ++ numbers shown) ≡ length (numbers earlier) + is.0 =
      length-append (numbers earlier) (numbers shown)
      ∙ ap (λ (k : ℕ). length (numbers earlier) + k) (ap length is.1.1 ∙ length-range_with_len n.own.acked is.0) in
      let state = ap (λ s. s.own.acked) (own_state clients cfg e.node e past valid run (node_itself e.node)) in (
        subst IsCounted (sym all) (dense_more (numbers earlier) (numbers shown) n.own.acked is.0 before.0 is.1.1 before.1),
        state ∙ (is.1.0 ∙ (ap (λ (k : ℕ). k + is.0) before.1 ∙ (sym more ∙ ap length (sym all)))),
      )

  next_acked : (e : HistoryEntry) (past : Past) → IsPastOf cfg (e ∷ past) → AllAcked past → AllAcked (e ∷ past)
  next_acked e past run before node client =
      on_own (same_node e.node node)
      (λ own.
      let same = same_node_is e.node node own in
      let one = subst (λ x. IsTrue (is_client x)) (sym same) client in
      subst (HasAcked (e ∷ past)) same (own_acked e past run one (before e.node one)))
      (λ other.
      let marked = other_shown node e past other in
      let was = before node client in (
        subst (λ l. IsCounted (numbers l)) (sym marked) was.0,
        ap (λ s. s.own.acked) (other_state clients cfg node e past other) ∙ (was.1 ∙ ap (λ l. length (numbers l)) (sym marked)),
      ))

  all_acked : (past : Past) → IsPastOf cfg past → AllAcked past
  all_acked = every_past cfg AllAcked (λ node client. (refl, of_client (λ x. (after clients cfg x []).own.acked ≡ 0) (λ k. refl) node client)) next_acked

pub acked_is_counted : OfEveryRun (λ cfg past. AckedIsCounted past)
acked_is_counted cfg past valid run client = (all_acked cfg valid past run (nodes.Client client) refl).0

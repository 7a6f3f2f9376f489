-- The rules of every node are made of the places of its kind.
use Rattle.std.proofs.Common.{◌≡◌, ℕ, suc, ◌==◌, true, nat_lt, List, [], ◌∷◌, map, Some, refl, subst, sym, append_assoc, append-nil}
use Rattle.std.specs.List.{slice_get}
use Rattle.std.proofs.lemmas.Bool.{eqb-true, ltb-true}
use Rattle.cut_core.specs.Agreements.{Agreement}
use Rattle.msg_wire.specs.Heeded.{is_heeded}
use Rattle.node_rules.specs.Names.{NodeId, Entry, Message, What, Event}
use Rattle.node_rules.specs.Names.events
use Rattle.node_rules.specs.Names.whats
use Rattle.node_rules.specs.Nodes.{Node, has_slot, asked_by}
use Rattle.node_rules.specs.Turns.{Turn, started, count_known, agreed, message_to, send, send_all}
use Rattle.node_rules.specs.Rules.{heed, learned, learn, learn_next, with_seen, ask, ask_on, decided, tick}
use Rattle.node_rules.proofs.Lists.{on_test, on_option}
use Rattle.node_rules.proofs.Places.{Comes, IsTold, Asks, asks_on, asks_at_tick, HasLearned, Places, SitesAfter, Sites}

module _ {S : Type 0} {p : Places S} {after : Node S → Entry → S} {W : Turn S → Type 0} {n : Node S} {event : Event} (s : SitesAfter p after W n event) where
  -- what is sent to each of several is sent to one after the other
  pub walk_sends : (tos : List NodeId) (what : What) (t : Turn S) → ((i : ℕ) (to : NodeId) → slice_get tos i ≡ Some to → p.Says n event t.state to what) → W t
      → W (send_all tos what t)
  walk_sends [] what t each w = subst (λ (sends : List Message). W (record t { sends = sends })) (sym (append-nil t.sends)) w
  walk_sends (to ∷ tos) what t each w =
      subst (λ (sends : List Message). W (record t { sends = sends })) (append_assoc t.sends (message_to t what to ∷ []) (map (message_to t what) tos))
      (walk_sends tos what (send to what t) (λ i other e. each (suc i) other e) (s.says t to what (each 0 to refl) w))

  pub walk_ask : (to : NodeId) (t : Turn S) → (has_slot t.state.base ≡ true → Asks n event t.state to) → W t → W (ask to t)
  walk_ask to t why w = on_test W (has_slot t.state.base) _ t (λ slot. s.asks t to (why slot) w) (λ _. w)

  -- ---- Decided, where the entry is learned by the kind's rule for it

  walk_ask_on : (from : NodeId) (slot count : ℕ) (entry : Entry) (t : Turn S) → Comes n event from (whats.Decided slot count entry) → W t → W (ask_on from t)
  walk_ask_on from slot count entry t comes w =
      on_test W (nat_lt (count_known t) t.state.base.seen) _ t
      (λ more. walk_ask from t (λ free. asks_on from slot count entry comes (ltb-true _ _ more) free) w)
      (λ _. w)

  pub walk_decided_by : (rule : Agreement → Entry → Turn S → Turn S) (from : NodeId) (slot count : ℕ) (entry : Entry) (t : Turn S)
      → ((u : Turn S) → IsTold n event u.state entry → W u → W (learn rule entry u)) → Comes n event from (whats.Decided slot count entry) → W t
      → W (decided rule from slot count entry t)
  walk_decided_by rule from slot count entry t learns comes w =
      let seen = s.sees t from slot count entry comes w in
      let next : W (learn_next rule slot entry (with_seen count t)) =
      on_test W (slot == count_known t) _ (with_seen count t)
      (λ e. learns (with_seen count t)
      (record { from = from; count = count; comes = subst (λ (k : ℕ). Comes n event from (whats.Decided k count entry)) (eqb-true _ _ e) comes }) seen)
      (λ _. seen)
      in
      walk_ask_on from slot count entry (learn_next rule slot entry (with_seen count t)) comes next

  -- ---- events

  pub walk_tick : (t : Turn S) → event ≡ events.Tick → W t → W (tick t)
  walk_tick t e w =
      s.ticks _ e (on_option W (λ to. ask to t) (asked_by t.state.base) t (λ to whom. walk_ask to t (λ free. asks_at_tick to e whom free) w) w)

  -- a message that isn't heeded does nothing
  pub walk_heed : (rule : NodeId → What → Turn S → Turn S) (m : Message) → event ≡ events.Deliver m
      → (Comes n event m.from m.what → W (rule m.from m.what (started n))) → W (heed rule m (started n))
  walk_heed rule m e each =
      on_test W (is_heeded n.base.cfg n.base.me m) _ (started n)
      (λ heeded. each (record { message = m; same = e; by = refl; says = refl; heeded = heeded }))
      (λ _. s.starts)

-- ---- a learned entry, of a kind whose own part stays until its rule

module _ {S : Type 0} {p : Places S} {W : Turn S → Type 0} {n : Node S} {event : Event} (s : Sites p W n event) where
  abbrev pub WalksLearned : (Agreement → Entry → Turn S → Turn S) → Type 0
  WalksLearned rule = (before : Agreement) (entry : Entry) (t : Turn S) → HasLearned (p.Learns n event) t.state.base before entry → W t → W (rule before entry t)

  pub walk_decided : (rule : Agreement → Entry → Turn S → Turn S) (from : NodeId) (slot count : ℕ) (entry : Entry) (t : Turn S)
      → WalksLearned rule → ((u : Node S) → IsTold n event u entry → p.Learns n event u entry) → Comes n event from (whats.Decided slot count entry) → W t
      → W (decided rule from slot count entry t)
  walk_decided rule from slot count entry t follows told comes w =
      walk_decided_by s rule from slot count entry t
      (λ u is_told w. follows (agreed u) entry (learned entry u) (record { old = u.state; learns = told u.state is_told; base = refl; agrees = refl }) (s.learns u entry (told u.state is_told) w))
      comes w

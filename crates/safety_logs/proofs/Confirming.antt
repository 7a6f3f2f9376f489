-- A replica's step confirms what its learned entry covers, local after local, each at its place with its record; the older ones stay.
use Rattle.std.proofs.Common.{◌≡◌, ◌∙◌, ℕ, zero, suc, ◌+◌, ◌-◌, ◌≤◌, ◌==◌, nat_lt, List, [], ◌∷◌, ◌++◌, length, Option, Some, None, append_assoc, append-nil, refl, sym, ap, subst, arith}
use Rattle.std.specs.List.{fold, range_with_len, slice_get}
use Rattle.std.proofs.lemmas.Bool.{eqb-true}
use Rattle.std.proofs.lemmas.List.Elements.{filter_map-append}
use Rattle.fix_ante.specs.Windows.{first_of}
use Rattle.cut_core.specs.declared.effects.Effect.{Effect}
use Rattle.cut_core.specs.declared.effects.Effect.TheVariants.{Removed}
use Rattle.cut_core.specs.Agreements.{Agreement, agreement_from}
use Rattle.cut_core.specs.Effects.{effect_of}
use Rattle.cut_core.specs.Map.{placed, covered_locals}
use Rattle.cut_core.proofs.AgreeingLemmas.{applied_all_push}
use Rattle.cut_core.proofs.Dense.{IsDense}
use Rattle.cut_core.proofs.GoneEnds.{covered_locals_applied_all}
use Rattle.cut_core.proofs.Indices.{index_of_some}
use Rattle.consumer_node.proofs.Applied.{some_at}
use Rattle.msg_wire.specs.Nodes.{is_primary, number_of}
use Rattle.node_rules.specs.Nodes.{Node, agreed_by, has_slot, knowing}
use Rattle.node_rules.specs.Turns.{Turn, started, me_of, own_of, agreed, count_known, put_own, show}
use Rattle.node_rules.specs.Rules.{learned, learn, learn_next, with_seen, ask, decided}
use Rattle.node_rules.proofs.Lists.{on_test, on_fold}
use Rattle.node_rules.proofs.Places.{Comes, IsTold, unsent_sites}
use Rattle.shard_node.specs.States.{ReplicaState, shard_of, log_of, covered_of, with_promised}
use Rattle.shard_node.specs.Learning.{tell_client, confirm_at, confirm, confirm_from, covered_is_durable, notice, on_learned}
use Rattle.shard_node.specs.Promises.{lease_at, to_promise, promise_record, promise, promise_some, promise_all}
use Rattle.shard_node.specs.Steps.{replica_step}
use Rattle.shard_node.proofs.Places.{Shows, confirmed, noticed, promised}
use Rattle.shard_node.proofs.Walk.{replica_walk}
use Rattle.runs.specs.Names.{NodeId, Entry, Record, Mark, Event}
use Rattle.runs.specs.Names.records
use Rattle.runs.specs.Names.marks
use Rattle.runs.specs.Names.whats
use Rattle.runs.specs.Marks.{confirmation_in, confirmations, log_by}
use Rattle.safety_frame.proofs.StableParts.{log_by_items}
use Rattle.safety_logs.proofs.ConfirmedLocals.{ConfirmsTo, to_longer, to_later, one_more}
use Rattle.safety_logs.proofs.ReplicaSteps.{on_both_turns}

-- ---- marks that confirm nothing

silent : (shown : List Mark) (mark : Mark) → confirmation_in mark ≡ None → confirmations (shown ++ mark ∷ []) ≡ confirmations shown
silent shown (marks.Confirm position rec) none = absurd (cc)
silent shown (marks.Apply position rec) none = filter_map-append confirmation_in shown _ ∙ append-nil (confirmations shown)
silent shown (marks.Undo first) none = filter_map-append confirmation_in shown _ ∙ append-nil (confirmations shown)
silent shown (marks.Promise position rec) none = filter_map-append confirmation_in shown _ ∙ append-nil (confirmations shown)
silent shown (marks.Notice first) none = filter_map-append confirmation_in shown _ ∙ append-nil (confirmations shown)
silent shown (marks.Out bytes) none = filter_map-append confirmation_in shown _ ∙ append-nil (confirmations shown)
silent shown (marks.Ack number position) none = filter_map-append confirmation_in shown _ ∙ append-nil (confirmations shown)

-- ---- a step, after what was confirmed before it

-- an entry of which the covered locals have places and are in the log
pub record CanCover (n : Node ReplicaState) (entry : Entry) : Type 0 where
  pub dense : IsDense (number_of n.base.me) (agreed_by (knowing entry n.base)).covered
  pub held : covered_locals (agreed_by (knowing entry n.base)) (number_of n.base.me) ≤ length n.own.log

module _ (before : List (ℕ × Record)) where
  -- of so many locals
  abbrev UpTo : ℕ → Turn ReplicaState → Type 0
  UpTo len t = ConfirmsTo (agreed t) (shard_of t) len (log_of t) (before ++ confirmations t.marks)

  -- of all that are covered
  abbrev pub Confirmed : Turn ReplicaState → Type 0
  Confirmed t = UpTo (covered_of t) t

  shown_silent : (len : ℕ) (mark : Mark) (t : Turn ReplicaState) → confirmation_in mark ≡ None → UpTo len t → UpTo len (show mark t)
  shown_silent len mark t none w =
      subst (λ (l : List (ℕ × Record)). ConfirmsTo (agreed t) (shard_of t) len (log_of t) (before ++ l)) (sym (silent t.marks mark none)) w

  -- ---- a range of locals is confirmed

  module _ (s : Node ReplicaState) where
    abbrev From : ℕ → Turn ReplicaState → Type 0
    From len t = (t.state ≡ s) × UpTo len t

    recorded : (len position : ℕ) (rec : Record) (t : Turn ReplicaState) → placed (agreed t) (shard_of t) len ≡ Some position
        → slice_get (log_of t) len ≡ Some rec
        → From len t → From (len + 1) (show (marks.Confirm position rec) t)
    recorded len position rec t place at w =
        let more = one_more (agreed t) (shard_of t) len (log_of t) (before ++ confirmations t.marks) position rec place at w.1 in
        let same : before ++ confirmations (t.marks ++ marks.Confirm position rec ∷ []) ≡ (before ++ confirmations t.marks) ++ (position, rec) ∷ [] =
        ap (λ (l : List (ℕ × Record)). before ++ l) (filter_map-append confirmation_in t.marks (marks.Confirm position rec ∷ []))
        ∙ sym (append_assoc before (confirmations t.marks) ((position, rec) ∷ [])) in
        (w.0, subst (ConfirmsTo (agreed t) (shard_of t) (len + 1) (log_of t)) (sym same) more)

    told : (len position : ℕ) (rec : Record) (t : Turn ReplicaState) → From len t → From len (tell_client position rec t)
    told len position (records.Data client number body) t w = w
    told len position records.Noop t w = w

    confirm_one : (len position : ℕ) (rec : Record) (t : Turn ReplicaState) → placed (agreed t) (shard_of t) len ≡ Some position
        → slice_get (log_of t) len ≡ Some rec
        → From len t → From (len + 1) (confirm t len)
    confirm_one len position rec t place at w =
        let shown : Turn ReplicaState = show (marks.Confirm position rec) t in
        let one : From (len + 1) shown = recorded len position rec t place at w in
        subst (λ (p : Option ℕ). From (len + 1) (confirm_at p (slice_get (log_of t) len) t)) (sym place)
        (subst (λ (r : Option Record). From (len + 1) (confirm_at (Some position) r t)) (sym at)
        (on_test (From (len + 1)) (is_primary (me_of t)) (tell_client position rec shown) shown (λ _. told (len + 1) position rec shown one) (λ _. one)))

    confirm_all : (from count : ℕ) (t : Turn ReplicaState) → IsDense (number_of s.base.me) (agreed_by s.base).covered
        → from + count ≤ covered_locals (agreed_by s.base) (number_of s.base.me) → from + count ≤ length s.own.log
        → From from t → From (from + count) (fold confirm t (range_with_len from count))
    confirm_all from zero t dense placed_all held w =
        let same : from ≡ from + 0 = omega arith in
        subst (λ (k : ℕ). From k t) same w
    confirm_all from (suc count) t dense placed_all held w =
        let a : Agreement = agreed_by s.base in
        let shard : ℕ = number_of s.base.me in
        let place = index_of_some a.covered shard from dense (omega (arith, placed_all)) in
        let at = some_at s.own.log from (omega (arith, held)) in
        let one =
        confirm_one from place.0 at.0 t
        (subst (λ (x : Node ReplicaState). placed (agreed_by x.base) (number_of x.base.me) from ≡ Some place.0) (sym w.0) place.1)
        (subst (λ (x : Node ReplicaState). slice_get x.own.log from ≡ Some at.0) (sym w.0) at.1) w in
        let all = confirm_all (from + 1) count (confirm t from) dense (omega (arith, placed_all)) (omega (arith, held)) one in
        let same : from + 1 + count ≡ from + suc count = omega arith in
        subst (λ (k : ℕ). From k (fold confirm t (range_with_len from (suc count)))) same all

  -- ---- an entry that is told

  noticed_on : (effect : Effect) (t : Turn ReplicaState) → Confirmed t → Confirmed (notice effect t)
  noticed_on (Removed shard first) t w = shown_silent (covered_of t) (marks.Notice first) t refl w
  noticed_on _ t w = w

  after_ask : (to : NodeId) (t : Turn ReplicaState) → Confirmed t → Confirmed (ask to t)
  after_ask to t w = on_test Confirmed (has_slot t.state.base) _ t (λ _. w) (λ _. w)

  module _ (n : Node ReplicaState) where
    after_learned : (count : ℕ) (entry : Entry) → CanCover n entry → Confirmed (started n) → Confirmed (learn on_learned entry (with_seen count (started n)))
    after_learned count entry can start =
        let u : Turn ReplicaState = with_seen count (started n) in
        let a : Agreement = agreed_by n.base in
        let shard : ℕ = number_of n.base.me in
        let from : ℕ = covered_locals a shard in
        let t : Turn ReplicaState = covered_is_durable (learned entry u) in
        let pushed = applied_all_push (agreement_from (first_of n.base.cfg.rounds n.base.cfg.table)) n.base.known entry in
        let grown = subst (λ (b : Agreement). from ≤ covered_locals b shard) (sym pushed) (covered_locals_applied_all a (entry ∷ []) shard) in
        let later : UpTo from t =
        subst (λ (b : Agreement). ConfirmsTo b shard from n.own.log (before ++ [])) (sym pushed) (to_later a entry shard from n.own.log (before ++ []) start) in
        let end : ℕ = covered_of t in
        let all_of : from + (end - from) ≡ end = omega (arith, grown) in
        let covered = confirm_all t.state from (end - from) t can.dense (omega (arith, all_of)) (omega (arith, all_of, can.held)) (refl, later) in
        let v : Turn ReplicaState = confirm_from from t in
        let same : end ≡ covered_of v = ap (λ (s : Node ReplicaState). covered_locals (agreed_by s.base) (number_of s.base.me)) (sym covered.0) in
        noticed_on (effect_of a entry) v (subst (λ (k : ℕ). UpTo k v) (all_of ∙ same) covered.1)

    after_decided : (from : NodeId) (slot count : ℕ) (entry : Entry) → (slot ≡ length n.base.known → CanCover n entry) → Confirmed (started n)
        → Confirmed (decided on_learned from slot count entry (started n))
    after_decided from slot count entry can start =
        let u : Turn ReplicaState = with_seen count (started n) in
        let next : Turn ReplicaState = learn_next on_learned slot entry u in
        let learned_it : Confirmed next =
        on_test Confirmed (slot == count_known u) (learn on_learned entry u) u
        (λ is_next. after_learned count entry (can (eqb-true slot (count_known u) is_next)) start) (λ _. start) in
        on_test Confirmed (nat_lt (count_known next) next.state.base.seen) (ask from next) next (λ _. after_ask from next learned_it) (λ _. learned_it)

  -- ---- promises

  promised_one : (position : Option ℕ) (rec : Option Record) (local : ℕ) (t : Turn ReplicaState) → Confirmed t
      → Confirmed (put_own (with_promised (local + 1) (own_of t)) (promise_record position rec local t))
  promised_one (Some position) (Some rec) local t w = shown_silent (covered_of t) (marks.Promise position rec) t refl w
  promised_one (Some position) None local t w = w
  promised_one None rec local t w = w

  after_promises : (t : Turn ReplicaState) → Confirmed t → Confirmed (promise_all t)
  after_promises t w =
      on_test Confirmed (is_primary (me_of t)) (promise_some t) t
      (λ _. on_fold Confirmed promise (to_promise t) t (λ u i local at is. promised_one (lease_at u local) (slice_get (log_of u) local) local u is) w) (λ _. w)

  -- ---- a step in which no entry is told

  module _ (n : Node ReplicaState) (event : Event) (none : (s : Node ReplicaState) (entry : Entry) → IsTold n event s entry → ⊥) where
    shows_silent : (s : Node ReplicaState) (mark : Mark) → Shows n event s mark → confirmation_in mark ≡ None
    shows_silent s _ (confirmed local position rec why) = absurd (none why.learned.old why.entry why.learned.learns)
    shows_silent s _ (noticed first why) = refl
    shows_silent s _ (promised position rec why) = refl

    step_untold : Confirmed (started n) → Confirmed (replica_step n event)
    step_untold start =
        replica_walk _ n event
        (unsent_sites Confirmed
        (record {
          starts = start;
          restarts = λ e. start;
          learns = λ t entry why w. absurd (none t.state entry why);
          shows = λ t mark why w. shown_silent (covered_of t) mark t (shows_silent t.state mark why) w;
          stores = λ t item own why w.
              to_longer (agreed t) (shard_of t) (covered_of t) (log_of t) own.log (before ++ confirmations t.marks)
              (log_by (item ∷ []), log_by_items.stores n event t.state item own why) w;
          changes = λ t own why w.
              subst (λ (l : List Record). ConfirmsTo (agreed t) (shard_of t) (covered_of t) l (before ++ confirmations t.marks))
              (sym (log_by_items.changes n event t.state own why)) w;
        }))

  -- ---- any step

  pub step_confirms : (n : Node ReplicaState) (event : Event)
      → ((from : NodeId) (count : ℕ) (entry : Entry) → Comes n event from (whats.Decided (length n.base.known) count entry) → CanCover n entry)
      → Confirmed (started n) → Confirmed (replica_step n event)
  step_confirms n event can start =
      on_both_turns n event Confirmed
      (record {
        start = start;
        decides = λ from slot count entry comes.
            after_decided n from slot count entry
            (λ next. can from count entry (subst (λ (k : ℕ). Comes n event from (whats.Decided k count entry)) next comes)) start;
        promises = after_promises;
        others = λ none. step_untold n event none start;
      })

-- What a step of a consumer applies stands at its position in what it has applied after the step: an undo comes before it.
use Rattle.std.proofs.Common.{◌≡◌, ◌∙◌, ℕ, ◌+◌, ◌==◌, nat_lt, List, [], ◌∷◌, ◌++◌, length, slice_get, Some, append_assoc, refl, sym, ap, subst, arith}
use Rattle.std.specs.List.{AllByRecursion, range_with_len}
use Rattle.std.proofs.lemmas.List.{length-append}
use Rattle.std.proofs.lemmas.List.Sums.{fold-append}
use Rattle.std.proofs.lemmas.Option.{slice_get_within}
use Rattle.fix_ante.specs.declared.spots.Owner.{Owner}
use Rattle.fix_ante.proofs.Entries.{slice_get_append_left, slice_get_append_right}
use Rattle.cut_core.specs.declared.effects.Effect.{Effect}
use Rattle.cut_core.specs.declared.effects.Effect.TheVariants.{Removed}
use Rattle.cut_core.specs.Effects.{effect_of}
use Rattle.cut_core.specs.Map.{mapped, located}
use Rattle.msg_wire.specs.Heeded.{is_heeded}
use Rattle.msg_wire.specs.Nodes.{replicas_of}
use Rattle.msg_wire.specs.Valid.{IsValidEvent}
use Rattle.app_law.specs.declared.any_app.AnyApp.{AnyApp}
use Rattle.node_rules.specs.Names.{NodeId, AppKind, Record, Entry, Item, What, Mark, Event}
use Rattle.node_rules.specs.Names.items
use Rattle.node_rules.specs.Names.marks
use Rattle.node_rules.specs.Names.whats
use Rattle.node_rules.specs.Names.events
use Rattle.node_rules.specs.Nodes.{has_slot, asked_by}
use Rattle.node_rules.specs.Turns.{Turn, started, own_of, agreed, count_known, store, send_all, show}
use Rattle.node_rules.specs.Rules.{ask, learned, learn, learn_next, with_seen, decided, tick}
use Rattle.node_rules.proofs.Lists.{on_test, on_option, on_fold, all_push, all_weaken}
use Rattle.consumer_node.specs.Apps.{any_meaning}
use Rattle.consumer_node.specs.States.{ConsumerState, applied}
use Rattle.consumer_node.specs.Sound.{IsConsumer}
use Rattle.consumer_node.specs.Rules.{cut_to, undo, notice, on_learned, is_wanted, fetch, fetch_at, on_tick}
use Rattle.consumer_node.specs.Speculation.{to_apply, apply, apply_all, to_confirm, confirm_at, confirm, finish}
use Rattle.consumer_node.specs.Steps.{hear, handle, consumer_step}
use Rattle.consumer_node.proofs.Walk.{staged_handle}
use Rattle.runs.specs.Marks.{after_mark, applied_by}
use Rattle.safety_consumers.proofs.EachConsumer.{Consumer}
use Rattle.safety_consumers.proofs.Telling.{Tells, applied_long}
use Rattle.safety_consumers.proofs.TellingSteps.{Telling, telling_sites, telling_start}

-- ---- an event by itself applies nothing

abbrev IsNoApply : Mark → Type 0
IsNoApply (marks.Apply position rec) = ⊥
IsNoApply _ = Unit {0}

abbrev AppliesNone : Turn (ConsumerState AnyApp) → Type 0
AppliesNone t = AllByRecursion IsNoApply t.marks

undo_none : (first : ℕ) (t : Turn (ConsumerState AnyApp)) → AppliesNone t → AppliesNone (undo first t)
undo_none first t none =
    on_test AppliesNone (nat_lt first (applied t)) (show (marks.Undo first) (cut_to first t)) t
    (λ _. all_push IsNoApply t.marks (marks.Undo first) none tt) (λ _. none)

notice_none : (effect : Effect) (t : Turn (ConsumerState AnyApp)) → AppliesNone t → AppliesNone (notice effect t)
notice_none (Removed shard first) t none =
    undo_none first (show (marks.Notice first) t) (all_push IsNoApply t.marks (marks.Notice first) none tt)
notice_none effect t none = none

ask_none : (to : NodeId) (t : Turn (ConsumerState AnyApp)) → AppliesNone t → AppliesNone (ask to t)
ask_none to t none = on_test AppliesNone (has_slot t.state.base) _ t (λ _. none) (λ _. none)

decided_none : (from : NodeId) (slot count : ℕ) (entry : Entry) (t : Turn (ConsumerState AnyApp)) → AppliesNone t
    → AppliesNone (decided on_learned from slot count entry t)
decided_none from slot count entry t none =
    let seen : Turn (ConsumerState AnyApp) = with_seen count t in
    let next : Turn (ConsumerState AnyApp) = learn_next on_learned slot entry seen in
    let known : AppliesNone next =
    on_test AppliesNone (slot == count_known seen) (learn on_learned entry seen) seen
    (λ _. notice_none (effect_of (agreed seen) entry) (learned entry seen) none) (λ _. none) in
    on_test AppliesNone (nat_lt (count_known next) next.state.base.seen) (ask from next) next (λ _. ask_none from next known) (λ _. known)

fetch_none : (o : Owner) (t : Turn (ConsumerState AnyApp)) → AppliesNone t → AppliesNone (fetch o t)
fetch_none o t none =
    on_test AppliesNone (is_wanted (own_of t).lanes o) (send_all (replicas_of o.shard) (whats.Fetch o.local) t) t (λ _. none) (λ _. none)

tick_none : (t : Turn (ConsumerState AnyApp)) → AppliesNone t → AppliesNone (on_tick t)
tick_none t none =
    on_fold AppliesNone fetch_at (range_with_len (applied (tick t)) 8) (tick t)
    (λ u i position at so. on_option AppliesNone (λ o. fetch o u) (mapped (agreed u) position) u (λ o there. fetch_none o u so) so)
    (on_option AppliesNone (λ to. ask to t) (asked_by t.state.base) t (λ to whom. ask_none to t none) none)

hear_none : (from : NodeId) (what : What) (t : Turn (ConsumerState AnyApp)) → AppliesNone t → AppliesNone (hear from what t)
hear_none from (whats.Decided slot count entry) t none = decided_none from slot count entry t none
hear_none from _ t none = none

handle_none : (n : Consumer) (event : Event) → AppliesNone (handle event (started n))
handle_none n (events.Deliver m) =
    on_test AppliesNone (is_heeded n.base.cfg n.base.me m) (hear m.from m.what (started n)) (started n) (λ _. hear_none m.from m.what (started n) tt) (λ _. tt)
handle_none n events.Tick = tick_none (started n) tt
handle_none n _ = tt

-- ---- the end of a step

-- what is applied at a position stands there
abbrev pub Stands : List Record → Mark → Type 0
Stands log (marks.Apply position rec) = slice_get log position ≡ Some rec
Stands log _ = Unit {0}

stands_none : (log : List Record) (mark : Mark) → IsNoApply mark → Stands log mark
stands_none log (marks.Apply position rec) none = absurd none
stands_none log mark none = tt

stands_more : (log : List Record) (rec : Record) (mark : Mark) → Stands log mark → Stands (log ++ rec ∷ []) mark
stands_more log rec (marks.Apply position other) at = slice_get_append_left log (rec ∷ []) position (slice_get_within log position other at) ∙ at
stands_more log rec mark at = tt

module _ (shown : List Mark) where
  abbrev pub AllStand : Turn (ConsumerState AnyApp) → Type 0
  AllStand t = AllByRecursion (Stands (applied_by (shown ++ t.marks))) t.marks

  abbrev Counts : Turn (ConsumerState AnyApp) → Type 0
  Counts t = (length (applied_by (shown ++ t.marks)) ≡ applied t) × AllStand t

  log_more : (before : List Mark) (mark : Mark) → applied_by (shown ++ (before ++ mark ∷ [])) ≡ after_mark (applied_by (shown ++ before)) mark
  log_more before mark = ap applied_by (sym (append_assoc shown before (mark ∷ []))) ∙ fold-append after_mark [] (shown ++ before) (mark ∷ [])

  apply_one : (t : Turn (ConsumerState AnyApp)) (rec : Record) → Counts t → Counts (apply t rec)
  apply_one t rec is =
      let log = applied_by (shown ++ t.marks) in
      let mark : Mark = marks.Apply (applied t) rec in
      let same : applied_by (shown ++ (t.marks ++ mark ∷ [])) ≡ log ++ rec ∷ [] = log_more t.marks mark in
      let last : applied t ≡ length log + 0 = omega (arith, is.0) in
      let here : slice_get (log ++ rec ∷ []) (applied t) ≡ Some rec =
      ap (slice_get (log ++ rec ∷ [])) last ∙ slice_get_append_right log (rec ∷ []) (length log) 0 refl in (
        omega (arith, ap length same, length-append log (rec ∷ []), is.0, length-append (own_of t).pending (rec ∷ [])),
        subst (λ l. AllByRecursion (Stands l) (t.marks ++ mark ∷ [])) (sym same)
            (all_push (Stands (log ++ rec ∷ [])) t.marks mark
            (all_weaken (Stands log) (Stands (log ++ rec ∷ [])) t.marks (λ m at. stands_more log rec m at) is.1) here),
      )

  -- a mark that applies and undoes nothing
  stand_on : (before : List Mark) (mark : Mark) → after_mark (applied_by (shown ++ before)) mark ≡ applied_by (shown ++ before)
      → Stands (applied_by (shown ++ before)) mark → AllByRecursion (Stands (applied_by (shown ++ before))) before
      → AllByRecursion (Stands (applied_by (shown ++ (before ++ mark ∷ [])))) (before ++ mark ∷ [])
  stand_on before mark same here all =
      let log = applied_by (shown ++ before) in
      subst (λ l. AllByRecursion (Stands l) (before ++ mark ∷ [])) (sym (log_more before mark ∙ same)) (all_push (Stands log) before mark all here)

  confirm_one : (t : Turn (ConsumerState AnyApp)) (rec : Record) (o : Owner) → AllStand t → AllStand (confirm_at any_meaning rec o t)
  confirm_one t rec o all =
      let output = any_meaning.output (own_of t).base rec in
      let mark : Mark = marks.Confirm (own_of t).confirmed rec in
      let u : Turn (ConsumerState AnyApp) = show mark (store (items.Confirmed rec output) t) in
      let first : AllStand u = stand_on t.marks mark refl tt all in
      on_test AllStand (length output == 0) u (show (marks.Out output) u) (λ _. first) (λ _. stand_on u.marks (marks.Out output) refl tt first)

  finish_stands : (t : Turn (ConsumerState AnyApp)) → Counts t → AllStand (finish any_meaning t)
  finish_stands t is =
      let u : Turn (ConsumerState AnyApp) = apply_all t in
      on_fold AllStand (confirm any_meaning) (to_confirm u) u
      (λ v i rec at so.
      on_option AllStand (λ o. confirm_at any_meaning rec o v) (located (agreed v) (own_of v).confirmed) v (λ o here. confirm_one v rec o so) so)
      (on_fold Counts apply (to_apply t) t (λ v i rec at so. apply_one v rec so) is).1

-- ---- a step

module _ (kind : AppKind) (shown : List Mark) (stored : List Item) (n : Consumer) where
  handled : (event : Event) → IsValidEvent event → IsConsumer n → Tells kind shown stored [] n.own.confirmed n.own.base n.own.pending
      → AllStand shown (finish any_meaning (handle event (started n)))
  handled event valid sound is =
      let t : Turn (ConsumerState AnyApp) = handle event (started n) in
      let told =
      staged_handle any_meaning (Telling kind shown stored n event valid) n event (telling_sites kind shown stored n event valid)
      (telling_start kind shown stored n event valid sound is) in
      let log = applied_by (shown ++ t.marks) in
      finish_stands shown t (applied_long told.1.0, all_weaken IsNoApply (Stands log) t.marks (λ m none. stands_none log m none) (handle_none n event))

  pub step_stands : (event : Event) → IsValidEvent event → IsConsumer n → Tells kind shown stored [] n.own.confirmed n.own.base n.own.pending
      → AllStand shown (consumer_step any_meaning n event)
  step_stands events.Restart valid sound is = (tt, tt)
  step_stands event valid sound is = handled event valid sound is

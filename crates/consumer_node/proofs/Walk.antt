-- The walk through a consumer's table: what each place keeps, a whole step keeps.
use Rattle.std.proofs.Common.{◌≡◌, ℕ, zero, suc, ◌-◌, ◌==◌, true, nat_lt, List, [], ◌∷◌, length, Option, Some, None, refl, ap, subst, arith}
use Rattle.std.specs.Prelude.{min}
use Rattle.std.specs.List.{slice_get, range_with_len}
use Rattle.std.proofs.lemmas.Bool.{eqb-true, eqb-false, ltb-true, ltb-false}
use Rattle.std.proofs.lemmas.List.{nil_from_length}
use Rattle.consumer_node.specs.inside.Names.{Owner, Effect, Removed, effect_of, mapped, located, Turn, started, own_of, agreed, count_known, put_own, show, send}
use Rattle.consumer_node.specs.inside.Names.{Meaning, confirm_first, confirm_count, held_for}
use Rattle.msg_wire.specs.Heeded.{is_heeded}
use Rattle.node_rules.specs.Names.{NodeId, Entry, Event, Record, What}
use Rattle.node_rules.specs.Names.events
use Rattle.node_rules.specs.Names.marks
use Rattle.node_rules.specs.Names.nodes
use Rattle.node_rules.specs.Names.sides
use Rattle.node_rules.specs.Names.whats
use Rattle.node_rules.specs.Nodes.{Node, has_slot, asked_by}
use Rattle.node_rules.specs.Rules.{learn, learned, learn_next, with_seen, ask, decided, tick}
use Rattle.node_rules.proofs.Lists.{on_test, on_option, on_fold}
use Rattle.node_rules.proofs.Places.{Comes, IsTold, Asks, asks_on, asks_at_tick, Sites}
use Rattle.node_rules.proofs.SendLemmas.{send_all_append}
use Rattle.consumer_node.specs.States.{ConsumerState, applied}
use Rattle.consumer_node.specs.Rules.{cut_to, undo, notice, on_learned, is_wanted, fetch, fetch_at, on_tick}
use Rattle.consumer_node.specs.Speculation.{to_apply, apply, apply_all, with_confirmed, confirm_at, finish}
use Rattle.consumer_node.specs.Steps.{hear, handle, consumer_step}
use Rattle.consumer_node.proofs.Loops.{to_apply_next, apply_next, apply_none, confirm_counted}
use Rattle.consumer_node.proofs.Places.{Knows, Confirms, HasConfirmed, fetches_wanted, noticed, undone, applied_next, confirmed, written, confirms_oldest, holds_delivered, cuts_off, closes_gone, applies_held, consumer_places, Stage, between_rules, entry_known, removal_shown, undo_done, all_applied, output_due, StagedSites, confirmed_by}

module _ {A : Type 0} (app : Meaning A) (W : Stage → Turn (ConsumerState A) → Type 0) (n : Node (ConsumerState A)) (event : Event) (sites : StagedSites app W n event) where
  -- ---- a learned entry

  walk_undo : (first : ℕ) (t : Turn (ConsumerState A)) → W (removal_shown first) t → W undo_done (undo first t)
  walk_undo first t w =
      on_test (W undo_done) (nat_lt first (applied t)) (show (marks.Undo first) (cut_to first t)) t
      (λ past. sites.rules.undoes t first (ltb-true _ _ past) w) (λ none. sites.rules.undoes_none t first (ltb-false _ _ none) w)

  walk_notice : (effect : Effect) (t : Turn (ConsumerState A)) → W (entry_known effect) t → W undo_done (notice effect t)
  walk_notice (Removed shard first) t w = walk_undo first (show (marks.Notice first) t) (sites.rules.notices t shard first w)
  walk_notice effect t w = sites.rules.moves_none t effect (λ _. tt) w

  walk_learn : (entry : Entry) (t : Turn (ConsumerState A)) → IsTold n event t.state entry → W between_rules t → W between_rules (learn on_learned entry t)
  walk_learn entry t told w =
      let effect = effect_of (agreed t) entry in
      sites.rules.closes (notice effect (learned entry t)) (walk_notice effect (learned entry t) (sites.rules.learns t entry told w))

  -- ---- messages and ticks

  walk_ask : (to : NodeId) (t : Turn (ConsumerState A)) → (has_slot t.state.base ≡ true → Asks n event t.state to) → W between_rules t
      → W between_rules (ask to t)
  walk_ask to t why w = on_test (W between_rules) (has_slot t.state.base) _ t (λ slot. sites.asks t to (why slot) w) (λ _. w)

  walk_decided : (from : NodeId) (slot count : ℕ) (entry : Entry) (t : Turn (ConsumerState A)) → Comes n event from (whats.Decided slot count entry)
      → W between_rules t → W between_rules (decided on_learned from slot count entry t)
  walk_decided from slot count entry t comes w =
      let seen = sites.sees t from slot count entry comes w in
      let next : Turn (ConsumerState A) = learn_next on_learned slot entry (with_seen count t) in
      let known : W between_rules next =
      on_test (W between_rules) (slot == count_known t) _ (with_seen count t)
      (λ e. walk_learn entry (with_seen count t) (record { from = from; count = count; comes = subst (λ (k : ℕ). Comes n event from (whats.Decided k count entry)) (eqb-true _ _ e) comes }) seen)
      (λ _. seen)
      in
      on_test (W between_rules) (nat_lt (count_known next) next.state.base.seen) _ next
      (λ more. walk_ask from next (λ free. asks_on from slot count entry comes (ltb-true _ _ more) free) known)
      (λ _. known)

  walk_hear : (from : NodeId) (what : What) (t : Turn (ConsumerState A)) → Comes n event from what → W between_rules t → W between_rules (hear from what t)
  walk_hear from (whats.Decided slot count entry) t comes w = walk_decided from slot count entry t comes w
  walk_hear from (whats.Deliver local rec) t comes w = sites.rules.holds t from local rec comes w
  walk_hear from _ t comes w = w

  walk_fetch : (o : Owner) (position : ℕ) (t : Turn (ConsumerState A)) → event ≡ events.Tick → mapped (agreed t) position ≡ Some o → W between_rules t
      → W between_rules (fetch o t)
  walk_fetch o position t tick there w =
      let primary : NodeId = nodes.Shard o.shard sides.Primary in
      let backup : NodeId = nodes.Shard o.shard sides.Backup in
      let what : What = whats.Fetch o.local in
      on_test (W between_rules) (is_wanted (own_of t).lanes o) _ t
      (λ wanted.
      let first = sites.says t primary what (fetches_wanted o sides.Primary position tick there wanted) w in
      subst (W between_rules) (send_all_append (primary ∷ []) (backup ∷ []) what t) (sites.says (send primary what t) backup what (fetches_wanted o sides.Backup position tick there wanted) first))
      (λ _. w)

  walk_on_tick : event ≡ events.Tick → (t : Turn (ConsumerState A)) → W between_rules t → W between_rules (on_tick t)
  walk_on_tick comes t w =
      let asked = on_option (W between_rules) (λ to. ask to t) (asked_by t.state.base) t (λ to whom. walk_ask to t (λ free. asks_at_tick to comes whom free) w) w in
      on_fold (W between_rules) fetch_at (range_with_len (applied (tick t)) 8) (tick t)
      (λ u i position _ so. on_option (W between_rules) (λ o. fetch o u) (mapped (agreed u) position) u (λ o there. walk_fetch o position u comes there so) so)
      (sites.ticks _ comes asked)

  -- ---- the end of a step

  walk_applies : (recs : List Record) (t : Turn (ConsumerState A)) (next : Option Record) → to_apply t ≡ recs
      → held_for (agreed t) (own_of t) (applied t) ≡ next → W between_rules t → W all_applied (apply_all t)
  walk_applies recs t None is none w = subst (W all_applied) (apply_none t none) (sites.rules.leaves_none t none w)
  walk_applies [] t (Some rec) is held w = let more = to_apply_next t rec held in absurd (cc)
  walk_applies (first ∷ recs) t (Some rec) is held w =
      let more = to_apply_next t rec held in
      let rest : to_apply (apply t rec) ≡ recs = cc in
      subst (W all_applied) (apply_next t rec held) (walk_applies recs (apply t rec) _ rest refl (sites.rules.applies t rec held w))

  walk_confirm_at : (rec : Record) (o : Owner) (t : Turn (ConsumerState A)) → Confirms t.state rec o → W all_applied t → W all_applied (confirm_at app rec o t)
  walk_confirm_at rec o t why w =
      let output = app.output (own_of t).base rec in
      let due = sites.rules.confirms t rec o why w in
      on_test (λ v. W all_applied (put_own (with_confirmed app rec o (own_of t)) v)) (length output == 0) _ _
      (λ none. sites.rules.gives_none (confirmed_by app rec o t) output (nil_from_length output (eqb-true (length output) 0 none)) due) (λ some. sites.rules.gives (confirmed_by app rec o t) output (omega (arith, eqb-false (length output) 0 some)) due)

  walk_confirm_first : (pending : List Record) (t : Turn (ConsumerState A)) → (own_of t).pending ≡ pending → W all_applied t
      → W all_applied (confirm_first app pending t)
  walk_confirm_first [] t is w = w
  walk_confirm_first (rec ∷ pending) t is w =
      on_option (W all_applied) (λ o. confirm_at app rec o t) (located (agreed t) (own_of t).confirmed) t
      (λ o here. walk_confirm_at rec o t (record { oldest = ap (λ (recs : List Record). slice_get recs 0) is; here = here }) w) w

  walk_confirm_count : (count : ℕ) (t : Turn (ConsumerState A)) → W all_applied t → W all_applied (confirm_count app count t)
  walk_confirm_count zero t w = w
  walk_confirm_count (suc count) t w = walk_confirm_first _ (confirm_count app count t) refl (walk_confirm_count count t w)

  walk_finish : (t : Turn (ConsumerState A)) → W between_rules t → W all_applied (finish app t)
  walk_finish t w =
      let after : Turn (ConsumerState A) = apply_all t in
      let count : ℕ = min 3 (length (agreed after).covered - (own_of after).confirmed) in
      subst (W all_applied) (confirm_counted app after) (walk_confirm_count count after (walk_applies (to_apply t) t _ refl refl w))

-- what an event does by itself
pub staged_handle : {A : Type 0} (app : Meaning A) (W : Stage → Turn (ConsumerState A) → Type 0) (n : Node (ConsumerState A)) (event : Event)
    → StagedSites app W n event → W between_rules (started n) → W between_rules (handle event (started n))
staged_handle app W n (events.Deliver m) sites w =
    on_test (W between_rules) (is_heeded n.base.cfg n.base.me m) _ (started n)
    (λ heeded. walk_hear app W n (events.Deliver m) sites m.from m.what (started n) (record { message = m; same = refl; by = refl; says = refl; heeded = heeded }) w)
    (λ _. w)
staged_handle app W n events.Tick sites w = walk_on_tick app W n events.Tick sites refl (started n) w
staged_handle app W n _ sites w = w

-- and the whole step
pub staged_walk : {A : Type 0} (app : Meaning A) (W : Stage → Turn (ConsumerState A) → Type 0) (n : Node (ConsumerState A)) (event : Event)
    → StagedSites app W n event → W between_rules (started n) → W all_applied (consumer_step app n event)
staged_walk app W n events.Restart sites w = sites.rules.restarts refl w
staged_walk app W n event sites w = walk_finish app W n event sites _ (staged_handle app W n event sites w)

-- ---- what holds at every place of the table

module _ {A : Type 0} (app : Meaning A) (W : Turn (ConsumerState A) → Type 0) (n : Node (ConsumerState A)) (event : Event) (s : Sites (consumer_places app) W n event) where
  -- what is known at a stage
  abbrev IsAt : Stage → Node (ConsumerState A) → Type 0
  IsAt (entry_known effect) m = Knows n event m.base effect
  IsAt (removal_shown first) m = (shard : ℕ) × Knows n event m.base (Removed shard first)
  IsAt undo_done m = (effect : Effect) × Knows n event m.base effect
  IsAt (output_due output) m = HasConfirmed app n event m output
  IsAt _ m = Unit {0}

  abbrev Reaches : Stage → Turn (ConsumerState A) → Type 0
  Reaches stage t = IsAt stage t.state × W t

  staged : StagedSites app Reaches n event
  staged = record {
    asks = λ t to why w. (tt, s.asks t to why w.1);
    says = λ t to what why w. (tt, s.says t to what why w.1);
    sees = λ t from slot count entry comes w. (tt, s.sees t from slot count entry comes w.1);
    ticks = λ t comes w. (tt, s.ticks t comes w.1);
    rules = record {
      holds = λ t from local rec comes w. (tt, s.changes t _ (holds_delivered from local rec comes) w.1);
      learns = λ t entry told w. (record { before = agreed t; entry = entry; learned = record { old = t.state; learns = told; base = refl; agrees = refl }; has = refl }, s.learns t entry told w.1);
      notices = λ t shard first w. ((shard, w.0), s.shows t (marks.Notice first) (noticed shard first w.0) w.1);
      undoes = λ t first past w.
          let shown = s.shows t (marks.Undo first) (undone w.0.0 first w.0.1 past) w.1 in
          ((Removed w.0.0 first, w.0.1), s.changes (show (marks.Undo first) t) _ (cuts_off w.0.0 first w.0.1 past) shown);
      undoes_none = λ t first none w. ((Removed w.0.0 first, w.0.1), w.1);
      moves_none = λ t effect stays w. ((effect, w.0), w.1);
      closes = λ t w. (tt, s.changes t _ (closes_gone w.0.0 w.0.1) w.1);
      applies = λ t rec held w.
          let mark = marks.Apply (applied t) rec in
          (tt, s.changes (show mark t) _ (applies_held rec held) (s.shows t mark (applied_next rec held) w.1));
      leaves_none = λ t none w. w;
      confirms = λ t rec o why w.
          let mark = marks.Confirm (own_of t).confirmed rec in (
            record { old = t.state; rec = rec; owner = o; confirms = why; own = refl; gives = refl },
            s.stores (show mark t) _ _ (confirms_oldest rec o why) (s.shows t mark (confirmed rec o why) w.1),
          );
      gives = λ t output some w. (tt, s.shows t (marks.Out output) (written output some w.0) w.1);
      gives_none = λ t output none w. (tt, w.1);
      restarts = λ same w. (tt, s.restarts same);
    };
  }

pub consumer_walk : {A : Type 0} (app : Meaning A) (W : Turn (ConsumerState A) → Type 0) (n : Node (ConsumerState A)) (event : Event)
    → Sites (consumer_places app) W n event → W (consumer_step app n event)
consumer_walk app W n event s = (staged_walk app (Reaches app W n event s) n event (staged app W n event s) (tt, s.starts)).1

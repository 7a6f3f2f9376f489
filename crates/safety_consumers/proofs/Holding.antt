-- What a consumer holds stays of shards' logs, as a record of one is held, others are dropped, and logs grow.
use Rattle.std.proofs.Common.{◌≡◌, ℕ, zero, suc, Bool, true, false, cond, nat_lt, List, [], ◌∷◌, get_or, replicate, slice_get, Some, refl, sym, subst, inl, inr}
use Rattle.std.specs.Prelude.{slice_set}
use Rattle.std.specs.List.{AllByRecursion, fold}
use Rattle.std.specs.Map.{lookup, remove_entry}
use Rattle.std.specs.BTreeMap.{insert_entry}
use Rattle.std.specs.Ordering.{nat_cmp, eq_by_cmp, match_ordering}
use Rattle.std.specs.declared.cmp.Ordering.{Ordering}
use Rattle.std.specs.declared.cmp.Ordering.TheVariants.{Less, Equal, Greater}
use Rattle.std.proofs.lemmas.Bool.{cases_eq}
use Rattle.std.proofs.lemmas.List.{get_or-set_other}
use Rattle.std.proofs.lemmas.Map.Lookups.{exact_unsigned}
use Rattle.std.proofs.lemmas.Option.{same_Some}
use Rattle.cut_core.specs.declared.gone.Gone.{Gone}
use Rattle.spec_delivery.specs.declared.put.Put.TheVariants.{Old, Far, Again, Kept}
use Rattle.spec_delivery.specs.Lanes.{LaneState, fresh_lane, held_at, put_answer, after_put, raised, closed, emptied}
use Rattle.spec_delivery.specs.Buffers.{fresh_buffer, lane_of, answer_to, with_record, with_floor, without_records}
use Rattle.node_rules.specs.Names.{Record}
use Rattle.node_rules.proofs.Lists.{all_weaken}
use Rattle.consumer_node.specs.Rules.{close}
use Rattle.consumer_node.proofs.Closings.{set_each, lane_mapped}
use Rattle.consumer_node.proofs.Entries.{all_filter, same_local}
use Rattle.runs.specs.Marks.{IsPrefix}
use Rattle.safety_frame.proofs.Lists.{index_stays}
use Rattle.safety_consumers.specs.Owned.{AreOfLogs}

-- ---- entries: what holds of each with its local

module _ (P : ℕ × Record → Type 0) where
  entries_insert : (es : List (ℕ × Record)) (local : ℕ) (rec : Record) → AllByRecursion P es → P (local, rec)
      → AllByRecursion P (insert_entry nat_cmp es local rec)
  entries_insert [] local rec all here = (here, tt)
  entries_insert (e ∷ es) local rec all here =
      let after = λ (o : Ordering). match_ordering o ((local, rec) ∷ e ∷ es) ((e.0, rec) ∷ es) (e ∷ insert_entry nat_cmp es local rec) in
      elim (nat_cmp local e.0) as (λ o. nat_cmp local e.0 ≡ o → AllByRecursion P (after o)) [
        | Less ↦ λ c. (here, all)
        | Equal ↦ λ c. (subst (λ n. P (n, rec)) (exact_unsigned local e.0 c) here, all.1)
        | Greater ↦ λ c. (all.0, entries_insert es local rec all.1 here)
      ] refl

  entries_remove : (test : ℕ → Bool) (es : List (ℕ × Record)) → AllByRecursion P es → AllByRecursion P (remove_entry test es)
  entries_remove test [] all = tt
  entries_remove test (e ∷ es) all =
      elim (test e.0) as (λ b. AllByRecursion P (cond b es (e ∷ remove_entry test es))) [ true ↦ all.1 | false ↦ (all.0, entries_remove test es all.1) ]

  entry_found : (local : ℕ) (es : List (ℕ × Record)) (rec : Record) → AllByRecursion P es → lookup (eq_by_cmp nat_cmp local) es ≡ Some rec → P (local, rec)
  entry_found local [] rec all e = absurd (cc)
  entry_found local (x ∷ es) rec all e =
      let found = λ (b : Bool). cond b (Some x.1) (lookup (eq_by_cmp nat_cmp local) es) in
      elim (eq_by_cmp nat_cmp local x.0) as (λ b. eq_by_cmp nat_cmp local x.0 ≡ b → found b ≡ Some rec → P (local, rec)) [
        | true ↦ λ is here. subst (λ n. P (n, rec)) (sym (same_local local x.0 is)) (subst (λ r. P (x.0, r)) (same_Some x.1 rec here) all.0)
        | false ↦ λ is later. entry_found local es rec all.1 later
      ] refl e

-- ---- lanes

fresh_of : (count shard : ℕ) → get_or (replicate count fresh_lane) shard fresh_lane ≡ fresh_lane
fresh_of zero shard = refl
fresh_of (suc count) zero = refl
fresh_of (suc count) (suc shard) = fresh_of count shard

abbrev IsOf : List Record → LaneState → Type 0
IsOf log lane = AllByRecursion (λ (held : ℕ × Record). slice_get log held.0 ≡ Some held.1) lane.held

module _ (logs : ℕ → List Record) where
  -- where one shard's records change
  lane_changed : (lanes : List LaneState) (shard : ℕ) (lane : LaneState) → (IsOf (logs shard) (lane_of lanes shard) → IsOf (logs shard) lane)
      → AreOfLogs logs lanes → AreOfLogs logs (slice_set lanes shard lane)
  lane_changed lanes shard lane changed are other =
      elim (cases_eq shard other) [
        | inl here ↦
            subst (λ s. IsOf (logs s) (lane_of (slice_set lanes shard lane) s)) here
            (set_each (λ before after. IsOf (logs shard) before → IsOf (logs shard) after) lanes shard lane (λ l is. is) changed shard (are shard))
        | inr apart ↦ subst (IsOf (logs other)) (sym (get_or-set_other lanes shard other lane fresh_lane (λ e. apart (sym e)))) (are other)
      ]

  put_of : (log : List Record) (lane : LaneState) (local : ℕ) (rec : Record) → slice_get log local ≡ Some rec → IsOf log lane
      → IsOf log (after_put (put_answer lane local) lane local rec)
  put_of log lane local rec stands is =
      elim (put_answer lane local) as (λ put. IsOf log (after_put put lane local rec)) [
        | Old ↦ is
        | Far ↦ is
        | Again ↦ is
        | Kept ↦ entries_insert (λ held. slice_get log held.0 ≡ Some held.1) lane.held local rec is stands
      ]

  pub held_put : (lanes : List LaneState) (shard local : ℕ) (rec : Record) → slice_get (logs shard) local ≡ Some rec → AreOfLogs logs lanes
      → AreOfLogs logs (with_record lanes shard local rec)
  held_put lanes shard local rec stands are =
      lane_changed lanes shard (after_put (answer_to lanes shard local) (lane_of lanes shard) local rec)
      (λ is. put_of (logs shard) (lane_of lanes shard) local rec stands is) are

  pub held_raised : (lanes : List LaneState) (shard : ℕ) → AreOfLogs logs lanes → AreOfLogs logs (with_floor lanes shard)
  held_raised lanes shard are =
      let lane = lane_of lanes shard in
      lane_changed lanes shard (raised lane)
      (λ is. entries_remove (λ held. slice_get (logs shard) held.0 ≡ Some held.1) (eq_by_cmp nat_cmp lane.floor) lane.held is) are

  pub held_closed : (gone : List Gone) (lanes : List LaneState) → AreOfLogs logs lanes → AreOfLogs logs (fold close lanes gone)
  held_closed [] lanes are = are
  held_closed (g ∷ gone) lanes are =
      let lane = lane_of lanes g.shard in
      held_closed gone (close lanes g)
      (lane_changed lanes g.shard (closed lane g.end)
      (λ is. all_filter (λ held. slice_get (logs g.shard) held.0 ≡ Some held.1) (λ e. nat_lt e.0 g.end) lane.held is) are)

  pub held_none : (lanes : List LaneState) → AreOfLogs logs (without_records lanes)
  held_none lanes shard = subst (IsOf (logs shard)) (sym (lane_mapped emptied lanes shard refl)) tt

  pub held_fresh : AreOfLogs logs fresh_buffer
  held_fresh shard = subst (IsOf (logs shard)) (sym (fresh_of 6 shard)) tt

  -- so a record that is held of an owner stands in the log
  pub held_stands : (lanes : List LaneState) (shard local : ℕ) (rec : Record) → AreOfLogs logs lanes → held_at (lane_of lanes shard) local ≡ Some rec
      → slice_get (logs shard) local ≡ Some rec
  held_stands lanes shard local rec are e =
      entry_found (λ held. slice_get (logs shard) held.0 ≡ Some held.1) local (lane_of lanes shard).held rec (are shard) e

-- ---- logs that grow

pub held_grown : (logs more : ℕ → List Record) (lanes : List LaneState) → ((shard : ℕ) → IsPrefix (logs shard) (more shard)) → AreOfLogs logs lanes
    → AreOfLogs more lanes
held_grown logs more lanes grow are shard =
    all_weaken (λ (held : ℕ × Record). slice_get (logs shard) held.0 ≡ Some held.1) (λ held. slice_get (more shard) held.0 ≡ Some held.1)
    (lane_of lanes shard).held
    (λ held at. index_stays (logs shard) (more shard) held.0 held.1 (grow shard) at) (are shard)

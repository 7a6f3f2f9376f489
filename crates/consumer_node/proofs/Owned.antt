-- What holds of a consumer's own part stays, where a record is held, applied or confirmed, and at a restart.
use Rattle.std.proofs.Common.{◌≡◌, ℕ, suc, ◌+◌, ◌<◌, ◌≤◌, ◌==◌, List, [], ◌∷◌, ◌++◌, length, length-append, length-set, take, drop, None, Some, refl, sym, ap, ◌∙◌, subst, inl, inr, arith, add-one}
use Rattle.std.specs.List.{AllByRecursion, slice_get}
use Rattle.std.specs.Option.{option_and_then}
use Rattle.std.proofs.lemmas.Bool.{cases_Bool, cases_lt, eqb-true, eqb-false}
use Rattle.std.proofs.lemmas.List.{length-drop, length-map, get_or-replicate, get_or-set_same, get_or-set_other}
use Rattle.std.proofs.lemmas.Option.{slice_get_within, same_Some}
use Rattle.consumer_node.specs.inside.Names.{Owner, AppKind, IsValidRecord, Agreement, agreement_from, count_of, LaneState, fresh_lane, held_at, after_put, raised}
use Rattle.consumer_node.specs.inside.Names.{emptied, Meaning, held_of, with_confirmed}
use Rattle.fix_ante.proofs.Entries.{slice_get_append_left, slice_get_append_right}
use Rattle.record_codec.specs.declared.record.Record.{Record}
use Rattle.fix_ante.specs.Windows.{Window}
use Rattle.cut_core.specs.Map.{gone_end, map_of, mapped, located, leased}
use Rattle.cut_core.proofs.Dense.{map_dense, leased_mapped}
use Rattle.cut_core.proofs.Parts.{mapped_covered}
use Rattle.spec_delivery.specs.Buffers.{lane_of, answer_to, with_record, with_floor}
use Rattle.consumer_node.specs.States.{ConsumerState, fresh_consumer, applied_of, with_lanes, with_pending}
use Rattle.consumer_node.specs.Restart.{reset_own}
use Rattle.consumer_node.specs.Sound.{IsLane, held_for, FloorsAreConfirmed, IsOwn}
use Rattle.consumer_node.proofs.Lanes.{IsPut, put_none, put_one, lane_fresh, lane_put, lane_raised, held_raised}
use Rattle.consumer_node.proofs.Closings.{set_each, all_lane, all_set, all_emptied, lane_mapped}
use Rattle.consumer_node.proofs.Owners.{IsAgreement, located_small}
use Rattle.consumer_node.proofs.Positions.{local_at, count_own, count_other}
use Rattle.consumer_node.proofs.Applied.{IsAppliedAt, applied_at, take_covered}

-- until the gone shards are closed: only those that are gone have ends, and the applied records at some positions are held
pub record IsLearned {A : Type 0} (P : ℕ → Type 0) (a : Agreement) (s : ConsumerState A) : Type 0 where
  pub shards : length s.lanes ≡ 6
  pub lanes : AllByRecursion IsLane s.lanes
  pub confirmed : s.confirmed ≤ length a.covered
  pub floors : FloorsAreConfirmed a s
  pub ends : (shard : ℕ) → shard < 6 → gone_end a shard ≡ None → (lane_of s.lanes shard).end ≡ None
  pub applied : (i : ℕ) → i < length s.pending → P (s.confirmed + i) → held_for a s (s.confirmed + i) ≡ slice_get s.pending i

-- all positions
abbrev pub Any : ℕ → Type 0
Any p = Unit {0}

pub own_open : {A : Type 0} (a : Agreement) (s : ConsumerState A) → IsOwn a s → IsLearned Any a s
own_open a s is = record {
  shards = is.shards;
  lanes = is.lanes;
  confirmed = is.confirmed;
  floors = is.floors;
  ends = λ shard small none. is.ends shard small ∙ none;
  applied = λ i below _. is.applied i below;
}

-- ---- at its start, and after a restart

pub own_fresh : {A : Type 0} (app : Meaning A) (kind : AppKind) (w : Window) → IsOwn (agreement_from w) (fresh_consumer app kind)
own_fresh app kind w = record {
  shards = refl;
  lanes = (lane_fresh, (lane_fresh, (lane_fresh, (lane_fresh, (lane_fresh, (lane_fresh, tt))))));
  confirmed = omega arith;
  floors = λ shard small. ap (λ (l : LaneState). l.floor) (get_or-replicate 6 shard fresh_lane fresh_lane small);
  ends = λ shard small. ap (λ (l : LaneState). l.end) (get_or-replicate 6 shard fresh_lane fresh_lane small);
  applied = λ i below. absurd (omega (arith, below));
}

pub own_reset : {A : Type 0} (a : Agreement) (s : ConsumerState A) → IsOwn a s → IsOwn a (reset_own s)
own_reset a s is = record {
  shards = length-map s.lanes emptied ∙ is.shards;
  lanes = all_emptied s.lanes;
  confirmed = is.confirmed;
  floors = λ shard small. ap (λ (l : LaneState). l.floor) (lane_mapped emptied s.lanes shard refl) ∙ is.floors shard small;
  ends = λ shard small. ap (λ (l : LaneState). l.end) (lane_mapped emptied s.lanes shard refl) ∙ is.ends shard small;
  applied = λ i below. absurd (omega (arith, below));
}

-- ---- a record is held

-- where its owner's record is held still, so is an applied record
pub applied_still : {A : Type 0} (a : Agreement) (s : ConsumerState A) (lanes : List LaneState) (i : ℕ) (at : IsAppliedAt a s i)
    → held_of lanes at.owner ≡ Some at.rec → held_for a (with_lanes lanes s) (s.confirmed + i) ≡ slice_get s.pending i
applied_still a s lanes i at held = ap (option_and_then (held_of lanes)) at.position ∙ (held ∙ sym at.applied)

pub own_put : {A : Type 0} (a : Agreement) (s : ConsumerState A) (shard local : ℕ) (rec : Record) → IsValidRecord rec → IsOwn a s
    → IsOwn a (with_lanes (with_record s.lanes shard local rec) s)
own_put a s shard local rec valid is =
    let lane = after_put (answer_to s.lanes shard local) (lane_of s.lanes shard) local rec in
    let put : (other : ℕ) → IsPut (lane_of s.lanes other) (lane_of (with_record s.lanes shard local rec) other) =
    set_each IsPut s.lanes shard lane put_none (put_one (lane_of s.lanes shard) local rec) in
    record {
      shards = length-set s.lanes shard lane ∙ is.shards;
      lanes = all_set IsLane s.lanes shard lane is.lanes (lane_put (lane_of s.lanes shard) local rec valid (all_lane s.lanes shard is.lanes));
      confirmed = is.confirmed;
      floors = λ other small. (put other).floor ∙ is.floors other small;
      ends = λ other small. (put other).end ∙ is.ends other small;
      applied = λ i below.
          let at = applied_at a s i below (is.applied i below) in
          applied_still a s (with_record s.lanes shard local rec) i at ((put at.owner.shard).held at.owner.local at.rec at.held);
    }

-- ---- a record is applied

pub own_apply : {A : Type 0} (a : Agreement) (s : ConsumerState A) (rec : Record) → held_for a s (applied_of s) ≡ Some rec → IsOwn a s
    → IsOwn a (with_pending (s.pending ++ rec ∷ []) s)
own_apply a s rec held is = record {
  shards = is.shards;
  lanes = is.lanes;
  confirmed = is.confirmed;
  floors = is.floors;
  ends = is.ends;
  applied = λ i below. elim (cases_lt i (length s.pending)) [
    | inl old ↦ is.applied i old ∙ sym (slice_get_append_left s.pending (rec ∷ []) i old)
    | inr new ↦
        let last : i ≡ length s.pending = omega (arith, new, below, length-append s.pending (rec ∷ [])) in
        let end : length s.pending + 0 ≡ i = omega (arith, last) in
        let there : slice_get (s.pending ++ rec ∷ []) i ≡ Some rec =
        ap (slice_get (s.pending ++ rec ∷ [])) (sym end) ∙ slice_get_append_right s.pending (rec ∷ []) (length s.pending) 0 refl in
        ap (λ k. held_for a s (s.confirmed + k)) last ∙ (held ∙ sym there)
  ];
}

-- ---- a record is confirmed

pub drop_one : {X : Type 0} (xs : List X) (i : ℕ) → slice_get (drop 1 xs) i ≡ slice_get xs (suc i)
drop_one [] i = refl
drop_one (x ∷ xs) i = refl

-- two positions don't have one owner
apart : (a : Agreement) (p q : ℕ) (o u : Owner) → IsAgreement a → mapped a p ≡ Some o → mapped a q ≡ Some u → p < q → o.shard ≡ u.shard → o.local ≡ u.local
    → Some p ≡ Some q
apart a p q o u is first second less shard local =
    sym (leased_mapped a p o is.sound first) ∙ (ap (λ k. leased a k o.local) shard ∙ (ap (leased a u.shard) local ∙ leased_mapped a q u is.sound second))

-- the record of a later position is held still
later_held : {A : Type 0} (a : Agreement) (s : ConsumerState A) (o u : Owner) (q : ℕ) (rec : Record) → IsAgreement a → IsLearned Any a s
    → located a s.confirmed ≡ Some o → s.confirmed < q → mapped a q ≡ Some u
    → held_of s.lanes u ≡ Some rec → held_of (with_floor s.lanes o.shard) u ≡ Some rec
later_held a s o u q rec agreed is here later there held =
    let lane = raised (lane_of s.lanes o.shard) in
    let within : s.confirmed < length a.covered = slice_get_within a.covered s.confirmed o here in
    let small = located_small a s.confirmed o agreed here in
    let position : mapped a s.confirmed ≡ Some o = mapped_covered a s.confirmed within ∙ here in
    elim (cases_Bool (o.shard == u.shard)) [
      | inl own ↦
          let same : o.shard ≡ u.shard = eqb-true o.shard u.shard own in
          let floor : (lane_of s.lanes o.shard).floor ≡ o.local =
          is.floors o.shard small ∙ (sym (ap (count_of o.shard) (take_covered a s.confirmed is.confirmed)) ∙ sym (local_at (map_of a) s.confirmed o (map_dense a o.shard agreed.sound) position)) in
          let other : (lane_of s.lanes o.shard).floor ≡ u.local → ⊥ = λ e.
          (let one = same_Some s.confirmed q (apart a s.confirmed q o u agreed position there later same (sym floor ∙ e)) in omega (arith, one, later)) in
          let above : (lane_of s.lanes u.shard).floor ≡ u.local → ⊥ = subst (λ k. (lane_of s.lanes k).floor ≡ u.local → ⊥) same other in
          rw same
          (ap (λ (l : LaneState). held_at l u.local) (get_or-set_same s.lanes u.shard (raised (lane_of s.lanes u.shard)) fresh_lane (omega (arith, small, same, is.shards)))
          ∙ (held_raised (lane_of s.lanes u.shard) u.local (all_lane s.lanes u.shard is.lanes) above ∙ held))
      | inr other ↦
          ap (λ (l : LaneState). held_at l u.local) (get_or-set_other s.lanes o.shard u.shard lane fresh_lane (λ e. eqb-false o.shard u.shard other (sym e))) ∙ held
    ]

raised_floor : {A : Type 0} (a : Agreement) (s : ConsumerState A) (o : Owner) (shard : ℕ) → IsAgreement a → IsLearned Any a s → located a s.confirmed ≡ Some o
    → shard < 6
    → (lane_of (with_floor s.lanes o.shard) shard).floor ≡ count_of shard (take (suc s.confirmed) a.covered)
raised_floor a s o shard agreed is here small =
    let lane = raised (lane_of s.lanes o.shard) in
    let owner = located_small a s.confirmed o agreed here in
    elim (cases_Bool (o.shard == shard)) [
      | inl own ↦
          let same : o.shard ≡ shard = eqb-true o.shard shard own in
          rw same
          (ap (λ (l : LaneState). l.floor) (get_or-set_same s.lanes shard (raised (lane_of s.lanes shard)) fresh_lane (omega (arith, small, is.shards)))
          ∙ (ap (λ k. k + 1) (is.floors shard small) ∙ sym (count_own a.covered s.confirmed o shard here same)))
      | inr other ↦
          ap (λ (l : LaneState). l.floor) (get_or-set_other s.lanes o.shard shard lane fresh_lane (λ e. eqb-false o.shard shard other (sym e)))
          ∙ (is.floors shard small ∙ sym (count_other a.covered s.confirmed o shard here other))
    ]

end_raised : {A : Type 0} (s : ConsumerState A) (o : Owner) (shard : ℕ) → (lane_of (with_floor s.lanes o.shard) shard).end ≡ (lane_of s.lanes shard).end
end_raised s o shard = set_each (λ before after. after.end ≡ before.end) s.lanes o.shard (raised (lane_of s.lanes o.shard)) (λ l. refl) refl shard

pub confirm_learned : {A : Type 0} (app : Meaning A) (a : Agreement) (s : ConsumerState A) (rec : Record) (o : Owner) → IsAgreement a
    → located a s.confirmed ≡ Some o → IsLearned Any a s → IsLearned Any a (with_confirmed app rec o s)
confirm_learned app a s rec o agreed here is =
    let lane = raised (lane_of s.lanes o.shard) in
    let next : s.confirmed + 1 ≡ suc s.confirmed = add-one s.confirmed in
    record {
      shards = length-set s.lanes o.shard lane ∙ is.shards;
      lanes = all_set IsLane s.lanes o.shard lane is.lanes (lane_raised (lane_of s.lanes o.shard) (all_lane s.lanes o.shard is.lanes));
      confirmed = omega (arith, slice_get_within a.covered s.confirmed o here);
      floors = λ shard small. raised_floor a s o shard agreed is here small ∙ ap (λ k. count_of shard (take k a.covered)) (sym next);
      ends = λ shard small none. end_raised s o shard ∙ is.ends shard small none;
      applied = λ i below _.
          let old : suc i < length s.pending = omega (arith, below, length-drop 1 s.pending) in
          let at = applied_at a s (suc i) old (is.applied (suc i) old tt) in
          let place : s.confirmed + 1 + i ≡ s.confirmed + suc i = omega arith in
          let held : held_of (with_floor s.lanes o.shard) at.owner ≡ Some at.rec =
          later_held a s o at.owner (s.confirmed + suc i) at.rec agreed is here (omega arith) at.position at.held in
          ap (λ p. option_and_then (held_of (with_floor s.lanes o.shard)) (mapped a p)) place
          ∙ (applied_still a s (with_floor s.lanes o.shard) (suc i) at held ∙ sym (drop_one s.pending i));
    }

pub own_confirm : {A : Type 0} (app : Meaning A) (a : Agreement) (s : ConsumerState A) (rec : Record) (o : Owner) → IsAgreement a
    → located a s.confirmed ≡ Some o → IsOwn a s → IsOwn a (with_confirmed app rec o s)
own_confirm app a s rec o agreed here is =
    let next = confirm_learned app a s rec o agreed here (own_open a s is) in
    record {
      shards = next.shards;
      lanes = next.lanes;
      confirmed = next.confirmed;
      floors = next.floors;
      ends = λ shard small. end_raised s o shard ∙ is.ends shard small;
      applied = λ i below. next.applied i below tt;
    }

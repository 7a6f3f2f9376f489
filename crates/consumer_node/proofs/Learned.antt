-- What holds of a consumer's own part at a learned entry: what a removal moves is undone, and the shards that are gone are closed.
use Rattle.std.proofs.Common.{◌≡◌, ℕ, zero, suc, ◌+◌, ◌<◌, ◌==◌, true, List, [], ◌∷◌, length, length-append, take, Option, Some, None, refl, sym, ap, subst, ◌∙◌, inl, inr, arith}
use Rattle.std.specs.List.{slice_get, fold}
use Rattle.std.specs.Option.{option_and_then}
use Rattle.std.proofs.lemmas.Bool.{cases_Bool, cond-false, or_left, or_right}
use Rattle.std.proofs.lemmas.List.{take-append-le, length-take}
use Rattle.std.proofs.lemmas.Option.{slice_get_within}
use Rattle.quota_table.specs.declared.entry.Entry.{Entry}
use Rattle.consumer_node.specs.inside.Names.{Gone, Agreement, agreement_from, count_of, effect_of, map_of, mapped, gone_end, end_among, IsBelowFirst, LaneState}
use Rattle.consumer_node.specs.inside.Names.{held_at, lane_of, Base, first_window, agreed_by, knowing, IsBase, ConsumerState, with_pending, held_of, close, close_gone}
use Rattle.consumer_node.specs.inside.Names.{IsOwn}
use Rattle.cut_core.specs.Fold.{applied}
use Rattle.cut_core.proofs.AgreeingLemmas.{covered_applied, mapped_applied, applied_all_push}
use Rattle.cut_core.proofs.Ends.{is_among, end_among_counted}
use Rattle.cut_core.proofs.Finding.{dense_below}
use Rattle.cut_core.proofs.GoneEnds.{gone_end_applied_all}
use Rattle.cut_core.proofs.Consistent.{IsConsistent_sound}
use Rattle.consumer_node.proofs.Closings.{ended, ended_floor, ended_end, ended_held, length_closed, all_closed, lane_at_end}
use Rattle.consumer_node.proofs.Owners.{IsAgreement, agreement_by, owner_small}
use Rattle.consumer_node.proofs.Applied.{applied_at}
use Rattle.consumer_node.proofs.Owned.{IsLearned, Any, applied_still}

-- ---- one entry more is known

end_before : (a : Agreement) (entry : Entry) (shard : ℕ) (end : Option ℕ) → gone_end a shard ≡ end → gone_end (applied a entry) shard ≡ None → end ≡ None
end_before a entry shard None e none = refl
end_before a entry shard (Some end) e none =
    let stays : gone_end (applied a entry) shard ≡ Some end = gone_end_applied_all a (entry ∷ []) shard end e in
    absurd (cc)

own_learned : {A : Type 0} (a : Agreement) (entry : Entry) (s : ConsumerState A) → IsAgreement a → IsLearned Any a s
    → IsLearned (IsBelowFirst (effect_of a entry)) (applied a entry) s
own_learned a entry s agreed is =
    let more = covered_applied a entry in
    record {
      shards = is.shards;
      lanes = is.lanes;
      confirmed = omega (arith, is.confirmed, ap length more.1, length-append a.covered more.0);
      floors = λ shard small.
          is.floors shard small
          ∙ ap (count_of shard) (sym (take-append-le s.confirmed a.covered more.0 is.confirmed) ∙ ap (take s.confirmed) (sym more.1));
      ends = λ shard small none. is.ends shard small (end_before a entry shard (gone_end a shard) refl none);
      applied = λ i below stays.
          let held = is.applied i below tt in
          let at = applied_at a s i below held in
          let same : mapped (applied a entry) (s.confirmed + i) ≡ mapped a (s.confirmed + i) =
          mapped_applied a entry (s.confirmed + i) agreed.sound (slice_get_within (map_of a) (s.confirmed + i) at.owner at.position) stays in
          ap (option_and_then (held_of s.lanes)) same ∙ held;
    }

-- so it is of what a node's entries agree on
pub own_knowing : {A : Type 0} (b : Base) (entry : Entry) (s : ConsumerState A) → IsBase b → IsLearned Any (agreed_by b) s
    → IsLearned (IsBelowFirst (effect_of (agreed_by b) entry)) (agreed_by (knowing entry b)) s
own_knowing b entry s base is =
    subst (λ (a : Agreement). IsLearned (IsBelowFirst (effect_of (agreed_by b) entry)) a s) (sym (applied_all_push (agreement_from (first_window b.cfg)) b.known entry))
    (own_learned (agreed_by b) entry s (agreement_by b base) is)

-- ---- what is undone

pub take_get : {X : Type 0} (n : ℕ) (xs : List X) (i : ℕ) → i < n → slice_get (take n xs) i ≡ slice_get xs i
take_get zero xs i below = absurd (omega (arith, below))
take_get (suc n) [] i below = refl
take_get (suc n) (x ∷ xs) zero below = refl
take_get (suc n) (x ∷ xs) (suc i) below = take_get n xs i (omega (arith, below))

-- only applied records at positions that stay are left
pub own_cut : {A : Type 0} (P : ℕ → Type 0) (a : Agreement) (s : ConsumerState A) (n : ℕ) → ((i : ℕ) → i < n → P (s.confirmed + i)) → IsLearned P a s
    → IsLearned Any a (with_pending (take n s.pending) s)
own_cut P a s n stays is = record {
  shards = is.shards;
  lanes = is.lanes;
  confirmed = is.confirmed;
  floors = is.floors;
  ends = is.ends;
  applied = λ i below _.
      let size = length-take n s.pending in
      is.applied i (omega (arith, below, size)) (stays i (omega (arith, below, size))) ∙ sym (take_get n s.pending i (omega (arith, below, size)));
}

-- or all are
pub own_uncut : {A : Type 0} (P : ℕ → Type 0) (a : Agreement) (s : ConsumerState A) → ((i : ℕ) → i < length s.pending → P (s.confirmed + i)) → IsLearned P a s
    → IsLearned Any a s
own_uncut P a s stays is =
    record { shards = is.shards; lanes = is.lanes; confirmed = is.confirmed; floors = is.floors; ends = is.ends; applied = λ i below _. is.applied i below (stays i below) }

-- ---- the gone shards are closed

among_end : (gs : List Gone) (shard end : ℕ) → end_among gs shard ≡ Some end → is_among gs shard ≡ true
among_end [] shard end e = absurd (cc)
among_end (g ∷ gs) shard end e = elim (cases_Bool (g.shard == shard)) [
  | inl same ↦ or_left _ _ same
  | inr other ↦ or_right _ _ (among_end gs shard end (sym (cond-false _ _ _ other) ∙ e))
]

pub own_closed : {A : Type 0} (a : Agreement) (s : ConsumerState A) → IsAgreement a → IsLearned Any a s → IsOwn a (close_gone a s)
own_closed a s agreed is =
    let lanes = fold close s.lanes a.gone in
    let whole = IsConsistent_sound a agreed.sound agreed.ended in
    let count : ℕ → ℕ = λ shard. count_of shard a.covered in
    let at : (shard : ℕ) → shard < 6 → lane_of lanes shard ≡ ended (gone_end a shard) (lane_of s.lanes shard) =
    λ shard small. lane_at_end count a.gone s.lanes shard agreed.ended (omega (arith, small, is.shards)) in
    record {
      shards = length_closed a.gone s.lanes ∙ is.shards;
      lanes = all_closed a.gone s.lanes is.lanes;
      confirmed = is.confirmed;
      floors = λ shard small. ap (λ (l : LaneState). l.floor) (at shard small) ∙ (ended_floor (gone_end a shard) (lane_of s.lanes shard) ∙ is.floors shard small);
      ends = λ shard small. ap (λ (l : LaneState). l.end) (at shard small) ∙ ended_end (gone_end a shard) (lane_of s.lanes shard) (is.ends shard small);
      applied = λ i below.
          let here = applied_at a s i below (is.applied i below tt) in
          let o = here.owner in
          let held : held_of lanes o ≡ Some here.rec =
          ap (λ (l : LaneState). held_at l o.local) (at o.shard (owner_small a (s.confirmed + i) o agreed here.position))
          ∙ (ended_held (gone_end a o.shard) (lane_of s.lanes o.shard) o.local
          (λ end gone. omega (
            arith,
            end_among_counted count a.gone o.shard end agreed.ended gone,
            whole.gone_own_covered o.shard (among_end a.gone o.shard end gone),
            dense_below (map_of a) o.shard o.local (s.confirmed + i) (whole.dense o.shard) here.position,
          ))
          ∙ here.held) in
          applied_still a s lanes i here held;
    }

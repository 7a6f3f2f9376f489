-- One record of a shard, held or not, as another is put, the oldest goes, the shard ends, or all are dropped.
use Rattle.std.proofs.Common.{◌≡◌, ◌⊎◌, ◌∙◌, ℕ, zero, suc, ◌+◌, ◌<◌, Bool, true, false, nat_lt, cond, [], ◌∷◌, filter, get_or, replicate, Option, Some, None, refl, sym, ap, subst, inl, inr, arith}
use Rattle.std.specs.Prelude.{nat_le, ◌||◌, is_some, IsSome}
use Rattle.std.specs.Map.{remove_entry}
use Rattle.std.specs.BTreeMap.{insert_entry}
use Rattle.std.specs.Ordering.{nat_cmp, eq_by_cmp, match_ordering}
use Rattle.std.specs.declared.cmp.Ordering.TheVariants.{Less, Equal, Greater}
use Rattle.std.proofs.lemmas.Bool.{false≢true, cases_lt, cases_eq, cond_both, cond-true, ltb-true, leb-true, leb-false, le-leb, or_cases, or_parts}
use Rattle.std.proofs.lemmas.Map.{lookup-none, none_passes_from_lookup}
use Rattle.std.proofs.lemmas.Map.Lookups.{exact_unsigned}
use Rattle.record_codec.specs.declared.record.Record.{Record}
use Rattle.cut_core.proofs.Parts.{some_value}
use Rattle.spec_delivery.specs.declared.put.Put.{Put}
use Rattle.spec_delivery.specs.Lanes.{LaneState, held_at, is_past_end, put_answer, after_put, raised, closed}
use Rattle.spec_delivery.proofs.LaneLemmas.{all_insert, all_remove}
use Rattle.consumer_node.specs.Sound.{IsLane}
use Rattle.consumer_node.proofs.Closings.{ended}
use Rattle.consumer_node.proofs.Entries.{Entries, at, local_itself, other_local, all_filter}
use Rattle.consumer_node.proofs.Lanes.{IsPut, put_one, held_raised, held_closed}

-- ---- options

none_is : {X : Type 0} (o : Option X) → is_some o ≡ false → o ≡ None
none_is None e = refl
none_is (Some x) e = absurd (cc)

-- what is there afterwards was there, if none stays none
pub was_there : {X : Type 0} (before after : Option X) → (before ≡ None → after ≡ None) → IsSome after → IsSome before
was_there None after stays some = absurd (false≢true (sym (ap is_some (stays refl)) ∙ some))
was_there (Some x) after stays some = refl

-- ---- entries

none_removed : (k local : ℕ) (es : Entries) → at local es ≡ None → at local (remove_entry (eq_by_cmp nat_cmp k) es) ≡ None
none_removed k local es none =
    lookup-none (eq_by_cmp nat_cmp local) (remove_entry (eq_by_cmp nat_cmp k) es)
    (all_remove (λ n. eq_by_cmp nat_cmp local n ≡ false) (eq_by_cmp nat_cmp k) es (none_passes_from_lookup (eq_by_cmp nat_cmp local) es none))

none_filtered : (end local : ℕ) (es : Entries) → at local es ≡ None → at local (filter (λ e. nat_lt e.0 end) es) ≡ None
none_filtered end local es none =
    lookup-none (eq_by_cmp nat_cmp local) (filter (λ e. nat_lt e.0 end) es)
    (all_filter (λ e. eq_by_cmp nat_cmp local e.0 ≡ false) (λ e. nat_lt e.0 end) es (none_passes_from_lookup (eq_by_cmp nat_cmp local) es none))

none_inserted : (k local : ℕ) (r : Record) (es : Entries) → (k ≡ local → ⊥) → at local es ≡ None → at local (insert_entry nat_cmp es k r) ≡ None
none_inserted k local r es apart none =
    lookup-none (eq_by_cmp nat_cmp local) (insert_entry nat_cmp es k r)
    (all_insert (λ n. eq_by_cmp nat_cmp local n ≡ false) es k r (none_passes_from_lookup (eq_by_cmp nat_cmp local) es none)
    (other_local local k (λ same. apart (sym same))))

some_or : (b : Bool) (r : Record) (rest : Option Record) → IsSome rest → IsSome (cond b (Some r) rest)
some_or true r rest some = refl
some_or false r rest some = some

some_inserted : (es : Entries) (k : ℕ) (r : Record) → IsSome (at k (insert_entry nat_cmp es k r))
some_inserted [] k r = ap is_some (cond-true (eq_by_cmp nat_cmp k k) (Some r) None (local_itself k))
some_inserted (e ∷ es) k r =
    elim (nat_cmp k e.0) as (λ o. nat_cmp k e.0 ≡ o → IsSome (at k (match_ordering o ((k, r) ∷ e ∷ es) ((e.0, r) ∷ es) (e ∷ insert_entry nat_cmp es k r)))) [
      | Less ↦ λ c. ap is_some (cond-true (eq_by_cmp nat_cmp k k) (Some r) (at k (e ∷ es)) (local_itself k))
      | Equal ↦ λ c.
          let same : eq_by_cmp nat_cmp k e.0 ≡ true = subst (λ n. eq_by_cmp nat_cmp k n ≡ true) (exact_unsigned k e.0 c) (local_itself k) in
          ap is_some (cond-true (eq_by_cmp nat_cmp k e.0) (Some r) (at k es) same)
      | Greater ↦ λ c. some_or (eq_by_cmp nat_cmp k e.0) e.1 (at k (insert_entry nat_cmp es k r)) (some_inserted es k r)
    ] refl

-- ---- what isn't held

pub none_raised : (lane : LaneState) (local : ℕ) → held_at lane local ≡ None → held_at (raised lane) local ≡ None
none_raised lane local none = none_removed lane.floor local lane.held none

pub none_closed : (lane : LaneState) (end local : ℕ) → held_at lane local ≡ None → held_at (closed lane end) local ≡ None
none_closed lane end local none = none_filtered end local lane.held none

-- what is held after a record is put was held, or it is this one, in reach
pub held_or_put : (lane : LaneState) (local other : ℕ) (rec : Record) → IsSome (held_at (after_put (put_answer lane local) lane local rec) other)
    → IsSome (held_at lane other) ⊎ ((local ≡ other) × (local < lane.floor + 640))
held_or_put lane local other rec =
    let P : Put → Type 0 = λ put.
    (IsSome (held_at (after_put put lane local rec) other) → IsSome (held_at lane other) ⊎ ((local ≡ other) × (local < lane.floor + 640))) in
    cond_both (nat_lt local lane.floor) _ _ P (λ _ held. inl held)
    (λ _. cond_both (nat_le (lane.floor + 640) local || is_past_end lane.end local) _ _ P (λ _ held. inl held)
    (λ near. cond_both (is_some (held_at lane local)) _ _ P (λ _ held. inl held)
    (λ _ held. elim (cases_eq local other) [
      | inl here ↦ inr (here, leb-false (lane.floor + 640) local (or_parts (nat_le (lane.floor + 640) local) (is_past_end lane.end local) near).0)
      | inr apart ↦
          inl (was_there (held_at lane other) (at other (insert_entry nat_cmp lane.held local rec)) (none_inserted local other rec lane.held apart)
          held)
    ])))

-- ---- what is settled

-- below the floor, or at or past the end, or held
abbrev pub IsSettledAt : Option ℕ → LaneState → ℕ → Type 0
IsSettledAt end lane local = (local < lane.floor) ⊎ ((is_past_end end local ≡ true) ⊎ IsSome (held_at lane local))

settled_by_put : (end : Option ℕ) (before after : LaneState) (local : ℕ) → IsPut before after → IsSettledAt end before local → IsSettledAt end after local
settled_by_put end before after local put (inl low) = inl (omega (arith, low, put.floor))
settled_by_put end before after local put (inr (inl past)) = inr (inl past)
settled_by_put end before after local put (inr (inr held)) =
    let there = some_value (held_at before local) held in
    inr (inr (ap is_some (put.held local there.0 there.1)))

pub settled_put : (end : Option ℕ) (lane : LaneState) (local other : ℕ) (rec : Record) → IsSettledAt end lane local
    → IsSettledAt end (after_put (put_answer lane other) lane other rec) local
settled_put end lane local other rec settled =
    settled_by_put end lane (after_put (put_answer lane other) lane other rec) local (put_one lane other rec) settled

pub settled_raised : (end : Option ℕ) (lane : LaneState) (local : ℕ) → IsLane lane → IsSettledAt end lane local → IsSettledAt end (raised lane) local
settled_raised end lane local is (inl low) = inl (omega (arith, low))
settled_raised end lane local is (inr (inl past)) = inr (inl past)
settled_raised end lane local is (inr (inr held)) = elim (cases_eq lane.floor local) [
  | inl here ↦ inl (omega (arith, here))
  | inr apart ↦ inr (inr (ap is_some (held_raised lane local is apart) ∙ held))
]

pub settled_ended : (end : Option ℕ) (lane : LaneState) (local : ℕ) → IsSettledAt end lane local → IsSettledAt end (ended end lane) local
settled_ended None lane local settled = settled
settled_ended (Some end) lane local (inl low) = inl low
settled_ended (Some end) lane local (inr (inl past)) = inr (inl past)
settled_ended (Some end) lane local (inr (inr held)) = elim (cases_lt local end) [
  | inl below ↦ inr (inr (ap is_some (held_closed lane end local below) ∙ held))
  | inr past ↦ inr (inl (le-leb end local past))
]

-- a record that is put in reach is settled
pub put_settles : (lane : LaneState) (local : ℕ) (rec : Record) → local < lane.floor + 640
    → IsSettledAt lane.end (after_put (put_answer lane local) lane local rec) local
put_settles lane local rec near =
    let P : Put → Type 0 = λ put. IsSettledAt lane.end (after_put put lane local rec) local in
    cond_both (nat_lt local lane.floor) _ _ P (λ low. inl (ltb-true _ _ low))
    (λ _. cond_both (nat_le (lane.floor + 640) local || is_past_end lane.end local) _ _ P
    (λ far. elim (or_cases (nat_le (lane.floor + 640) local) (is_past_end lane.end local) far) [
      | inl reach ↦ absurd (omega (arith, leb-true _ _ reach, near))
      | inr past ↦ inr (inl past)
    ])
    (λ _. cond_both (is_some (held_at lane local)) _ _ P (λ held. inr (inr held)) (λ _. inr (inr (some_inserted lane.held local rec)))))

-- ---- lists of one value

pub same_or : {X : Type 0} (x : X) (count i : ℕ) → get_or (replicate count x) i x ≡ x
same_or x zero i = refl
same_or x (suc count) zero = refl
same_or x (suc count) (suc i) = same_or x count i

-- The locals that a shard has in a round and in some rounds, and where the window that follows goes on.
use Rattle.std.proofs.Common.{◌≡◌, ℕ, zero, suc, ◌+◌, ◌*◌, ◌==◌, ◌||◌, true, false, List, [], ◌∷◌, ◌++◌, refl, sym, ap, ◌∙◌, inl, inr, arith, add-one, append-nil}
use Rattle.std.specs.List.{range_with_len}
use Rattle.std.proofs.lemmas.Bool.{cases_Bool, cond-true, cond-false, eqb-true, and_parts, or_parts, not-true}
use Rattle.quota_table.specs.declared.rows.Row.{Row}
use Rattle.quota_table.specs.Rows.{is_distinct, has_shard}
use Rattle.fix_ante.specs.declared.spots.Spot.{Spot}
use Rattle.fix_ante.specs.declared.spots.Owner.{Owner}
use Rattle.fix_ante.specs.Windows.{rows_of, start_after, spots_from, spots_without}
use Rattle.fix_ante.specs.Layout.{owners_from, round_of, rounds_from}
use Rattle.fix_ante.specs.Locals.{locals_of, quota_of}
use Rattle.fix_ante.proofs.Successors.{start_after_here, start_after_later, spots_without_here, spots_without_other}

-- ---- numbers counted up

-- so many numbers, and the next ones after them
pub range_with_len_append : (n m count : ℕ) → range_with_len n m ++ range_with_len (n + m) count ≡ range_with_len n (m + count)
range_with_len_append n zero count =
    let from : n + zero ≡ n = omega arith in
    let all : zero + count ≡ count = omega arith in
    rw (from, all)
range_with_len_append n (suc m) count =
    let from : n + suc m ≡ n + 1 + m = omega arith in
    let all : suc m + count ≡ suc (m + count) = omega arith in
    rw (from, all) (ap (λ t. n ∷ t) (range_with_len_append (n + 1) m count))

-- ---- a shard's locals

locals_of_own : (o : Owner) (os : List Owner) (shard : ℕ) → (o.shard == shard) ≡ true → locals_of shard (o ∷ os) ≡ o.local ∷ locals_of shard os
locals_of_own o os shard same = cond-true _ _ _ same

locals_of_other : (o : Owner) (os : List Owner) (shard : ℕ) → (o.shard == shard) ≡ false → locals_of shard (o ∷ os) ≡ locals_of shard os
locals_of_other o os shard other = cond-false _ _ _ other

pub locals_of_append : (shard : ℕ) (xs ys : List Owner) → locals_of shard (xs ++ ys) ≡ locals_of shard xs ++ locals_of shard ys
locals_of_append shard [] ys = refl
locals_of_append shard (o ∷ os) ys =
    elim (cases_Bool (o.shard == shard)) [
      | inl same ↦ rw (locals_of_own o os shard same) (locals_of_own o (os ++ ys) shard same ∙ ap (λ t. o.local ∷ t) (locals_of_append shard os ys))
      | inr other ↦ rw (locals_of_other o os shard other) (locals_of_other o (os ++ ys) shard other ∙ locals_of_append shard os ys)
    ]

pub locals_of_owners_from_own : (shard other local count : ℕ) → (shard == other) ≡ true
    → locals_of other (owners_from shard local count) ≡ range_with_len local count
locals_of_owners_from_own shard other local zero same = refl
locals_of_owners_from_own shard other local (suc count) same =
    locals_of_own (record { shard = shard; local = local }) (owners_from shard (suc local) count) other same
    ∙ ap (λ t. local ∷ t) (locals_of_owners_from_own shard other (suc local) count same ∙ ap (λ n. range_with_len n count) (sym (add-one local)))

pub locals_of_owners_from_other : (shard other local count : ℕ) → (shard == other) ≡ false → locals_of other (owners_from shard local count) ≡ []
locals_of_owners_from_other shard other local zero apart = refl
locals_of_owners_from_other shard other local (suc count) apart =
    locals_of_other (record { shard = shard; local = local }) (owners_from shard (suc local) count) other apart
    ∙ locals_of_owners_from_other shard other (suc local) count apart

quota_of_here : (s : Spot) (ss : List Spot) (shard : ℕ) → (s.shard == shard) ≡ true → quota_of (s ∷ ss) shard ≡ s.quota
quota_of_here s ss shard same = cond-true _ _ _ same

quota_of_later : (s : Spot) (ss : List Spot) (shard : ℕ) → (s.shard == shard) ≡ false → quota_of (s ∷ ss) shard ≡ quota_of ss shard
quota_of_later s ss shard other = cond-false _ _ _ other

-- a shard that is no row has no position, and its locals begin at 0
pub absent_row : (spots : List Spot) (rounds shard : ℕ) → has_shard shard (rows_of spots) ≡ false
    → (quota_of spots shard ≡ 0) × (start_after spots rounds shard ≡ 0)
absent_row [] rounds shard h = (refl, refl)
absent_row (s ∷ ss) rounds shard h =
    let parts = or_parts (s.shard == shard) (has_shard shard (rows_of ss)) h in
    let rest = absent_row ss rounds shard parts.1 in
    (quota_of_later s ss shard parts.0 ∙ rest.0, start_after_later s ss rounds shard parts.0 ∙ rest.1)

pub absent_round_of : (spots : List Spot) (round shard : ℕ) → has_shard shard (rows_of spots) ≡ false → locals_of shard (round_of spots round) ≡ []
absent_round_of [] round shard h = refl
absent_round_of (s ∷ ss) round shard h =
    let parts = or_parts (s.shard == shard) (has_shard shard (rows_of ss)) h in
    locals_of_append shard (owners_from s.shard (s.start + round * s.quota) s.quota) (round_of ss round)
    ∙ ap (λ t. t ++ locals_of shard (round_of ss round)) (locals_of_owners_from_other s.shard shard (s.start + round * s.quota) s.quota parts.0)
    ∙ absent_round_of ss round shard parts.1

-- the shard of the first row is no later one's
absent_later : (s : Spot) (ss : List Spot) (shard : ℕ) → is_distinct (rows_of (s ∷ ss)) ≡ true → (s.shard == shard) ≡ true
    → has_shard shard (rows_of ss) ≡ false
absent_later s ss shard distinct same =
    let parts = and_parts _ (is_distinct (rows_of ss)) distinct in
    ap (λ n. has_shard n (rows_of ss)) (sym (eqb-true s.shard shard same)) ∙ not-true _ parts.0

-- in a round a shard has its next q locals
pub locals_of_round_of : (spots : List Spot) (round shard : ℕ) → is_distinct (rows_of spots) ≡ true
    → locals_of shard (round_of spots round) ≡ range_with_len (start_after spots round shard) (quota_of spots shard)
locals_of_round_of [] round shard distinct = refl
locals_of_round_of (s ∷ ss) round shard distinct =
    let own = owners_from s.shard (s.start + round * s.quota) s.quota in
    let joined = locals_of_append shard own (round_of ss round) in
    let parts = and_parts _ (is_distinct (rows_of ss)) distinct in
    elim (cases_Bool (s.shard == shard)) [
      | inl same ↦
          rw (start_after_here s ss round shard same, quota_of_here s ss shard same)
          (joined
          ∙ ap (λ t. locals_of shard own ++ t) (absent_round_of ss round shard (absent_later s ss shard distinct same))
          ∙ append-nil (locals_of shard own)
          ∙ locals_of_owners_from_own s.shard shard (s.start + round * s.quota) s.quota same)
      | inr other ↦
          rw (start_after_later s ss round shard other, quota_of_later s ss shard other)
          (joined
          ∙ ap (λ t. t ++ locals_of shard (round_of ss round)) (locals_of_owners_from_other s.shard shard (s.start + round * s.quota) s.quota other)
          ∙ locals_of_round_of ss round shard parts.1)
    ]

-- after some rounds and some more
pub start_after_add : (spots : List Spot) (m n shard : ℕ) → start_after spots (m + n) shard ≡ start_after spots m shard + n * quota_of spots shard
start_after_add [] m n shard = omega arith
start_after_add (s ∷ ss) m n shard =
    elim (cases_Bool (s.shard == shard)) [
      | inl same ↦ rw (start_after_here s ss (m + n) shard same, start_after_here s ss m shard same, quota_of_here s ss shard same) (omega arith)
      | inr other ↦ rw (start_after_later s ss (m + n) shard other, start_after_later s ss m shard other, quota_of_later s ss shard other) (start_after_add ss m n shard)
    ]

-- in so many rounds a shard has its next locals, one after another
pub locals_of_rounds_from : (spots : List Spot) (round count shard : ℕ) → is_distinct (rows_of spots) ≡ true
    → locals_of shard (rounds_from spots round count) ≡ range_with_len (start_after spots round shard) (count * quota_of spots shard)
locals_of_rounds_from spots round zero shard distinct =
    let none : zero * quota_of spots shard ≡ zero = omega arith in
    rw none
locals_of_rounds_from spots round (suc count) shard distinct =
    let q = quota_of spots shard in
    let from = start_after spots round shard in
    let next : start_after spots (suc round) shard ≡ from + q =
    ap (λ n. start_after spots n shard) (omega arith) ∙ start_after_add spots round 1 shard ∙ omega arith in
    let all : suc count * q ≡ q + count * q = omega arith in
    rw all
    (locals_of_append shard (round_of spots round) (rounds_from spots (suc round) count)
    ∙ ap (λ t. t ++ locals_of shard (rounds_from spots (suc round) count)) (locals_of_round_of spots round shard distinct)
    ∙ ap (λ t. range_with_len from q ++ t) (locals_of_rounds_from spots (suc round) count shard distinct ∙ ap (λ n. range_with_len n (count * q)) next)
    ∙ range_with_len_append from q (count * q))

-- ---- where the locals of a window that follows go on

-- a row of the window that follows begins where its shard goes on
pub start_after_spots_from : (start : ℕ → ℕ) (rows : List Row) (rounds shard : ℕ) → has_shard shard rows ≡ true
    → start_after (spots_from start rows) rounds shard ≡ start shard + rounds * quota_of (spots_from start rows) shard
start_after_spots_from start [] rounds shard h = absurd (cc)
start_after_spots_from start (r ∷ rs) rounds shard h =
    let s : Spot = record { shard = r.shard; quota = r.quota; start = start r.shard } in
    elim (cases_Bool (r.shard == shard)) [
      | inl same ↦
          rw (start_after_here s (spots_from start rs) rounds shard same, quota_of_here s (spots_from start rs) shard same)
          (ap (λ n. start n + rounds * r.quota) (eqb-true r.shard shard same))
      | inr other ↦
          rw (start_after_later s (spots_from start rs) rounds shard other, quota_of_later s (spots_from start rs) shard other)
          (start_after_spots_from start rs rounds shard (sym (ap (λ t. t || has_shard shard rs) other) ∙ h))
    ]

-- another shard than the one that left goes on where the covered rounds leave it
pub start_after_spots_without : (spots : List Spot) (covered gone rounds shard : ℕ) → (gone == shard) ≡ false
    → (start_after (spots_without spots covered gone) rounds shard ≡ start_after spots (covered + rounds) shard) × (quota_of (spots_without spots covered gone) shard ≡ quota_of spots shard)
start_after_spots_without [] covered gone rounds shard apart = (refl, refl)
start_after_spots_without (s ∷ ss) covered gone rounds shard apart =
    let rest = start_after_spots_without ss covered gone rounds shard apart in
    let moved : Spot = record { shard = s.shard; quota = s.quota; start = s.start + covered * s.quota } in
    let left = spots_without ss covered gone in
    elim (cases_Bool (s.shard == gone)) [
      | inl same ↦
          let other : (s.shard == shard) ≡ false = ap (λ n. n == shard) (eqb-true s.shard gone same) ∙ apart in
          rw (spots_without_here s ss covered gone same, start_after_later s ss (covered + rounds) shard other, quota_of_later s ss shard other) rest
      | inr stays ↦ rw (spots_without_other s ss covered gone stays) (elim (cases_Bool (s.shard == shard)) [
        | inl same ↦ (start_after_here moved left rounds shard same ∙ (omega arith ∙ sym (start_after_here s ss (covered + rounds) shard same)), quota_of_here moved left shard same ∙ sym (quota_of_here s ss shard same))
        | inr other ↦ (start_after_later moved left rounds shard other ∙ (rest.0 ∙ sym (start_after_later s ss (covered + rounds) shard other)), quota_of_later moved left shard other ∙ (rest.1 ∙ sym (quota_of_later s ss shard other)))
      ])
    ]

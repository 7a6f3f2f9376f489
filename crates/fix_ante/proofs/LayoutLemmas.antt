-- Rounds laid out: how many owners they have, and who stands at a place of them.
use Rattle.std.proofs.Common.{◌≡◌, ℕ, zero, suc, ◌+◌, ◌-◌, ◌*◌, ◌<◌, List, [], ◌∷◌, ◌++◌, length, Some, refl, sym, ap, ◌∙◌, inl, inr, arith, append_assoc, length-append}
use Rattle.std.specs.List.{slice_get}
use Rattle.std.proofs.lemmas.Bool.{cases_lt, cond-true, cond-false, lt-ltb, le-ltb}
use Rattle.quota_table.specs.Tables.{quotas_of}
use Rattle.fix_ante.specs.declared.spots.Spot.{Spot}
use Rattle.fix_ante.specs.Windows.{Window, rows_of, width_of}
use Rattle.fix_ante.specs.Layout.{owners_from, round_of, rounds_from, layout_of}
use Rattle.fix_ante.specs.Positions.{owner_among}
use Rattle.fix_ante.proofs.Entries.{slice_get_append_left, slice_get_append_right}

pub length_owners_from : (shard local count : ℕ) → length (owners_from shard local count) ≡ count
length_owners_from shard local zero = refl
length_owners_from shard local (suc count) = ap suc (length_owners_from shard (suc local) count)

-- a round has as many owners as the quotas add up to
pub length_round_of : (spots : List Spot) (round : ℕ) → length (round_of spots round) ≡ quotas_of (rows_of spots)
length_round_of [] round = refl
length_round_of (s ∷ ss) round =
    omega (arith, length-append (owners_from s.shard (s.start + round * s.quota) s.quota) (round_of ss round), length_owners_from s.shard (s.start + round * s.quota) s.quota, length_round_of ss round)

-- so many rounds
pub length_rounds_from : (spots : List Spot) (round count : ℕ) → length (rounds_from spots round count) ≡ count * quotas_of (rows_of spots)
length_rounds_from spots round zero = omega arith
length_rounds_from spots round (suc count) =
    omega (arith, length-append (round_of spots round) (rounds_from spots (suc round) count), length_round_of spots round, length_rounds_from spots (suc round) count)

-- a window has as many positions as its rounds
pub length_layout_of : (w : Window) → length (layout_of w) ≡ w.rounds * width_of w
length_layout_of w = length_rounds_from w.spots 0 w.rounds

-- some rounds and then some more
pub rounds_from_add : (spots : List Spot) (round m n : ℕ) → rounds_from spots round (m + n) ≡ rounds_from spots round m ++ rounds_from spots (round + m) n
rounds_from_add spots round zero n =
    let count : zero + n ≡ n = omega arith in
    let at : round + zero ≡ round = omega arith in
    rw (count, at)
rounds_from_add spots round (suc m) n =
    let count : suc m + n ≡ suc (m + n) = omega arith in
    let at : round + suc m ≡ suc round + m = omega arith in
    rw (count, at) (ap (λ t. round_of spots round ++ t) (rounds_from_add spots (suc round) m n) ∙ sym (append_assoc (round_of spots round) (rounds_from spots (suc round) m) (rounds_from spots (suc round + m) n)))

-- the next local but i of a shard
pub slice_get_owners_from : (shard local count i : ℕ) → i < count
    → slice_get (owners_from shard local count) i ≡ Some (record { shard = shard; local = local + i })
slice_get_owners_from shard local zero i h = absurd (omega arith)
slice_get_owners_from shard local (suc count) zero h = let at : local ≡ local + zero = omega arith in ap (λ n. Some (record { shard = shard; local = n })) at
slice_get_owners_from shard local (suc count) (suc i) h =
    let at : suc local + i ≡ local + suc i = omega arith in
    slice_get_owners_from shard (suc local) count i (omega arith) ∙ ap (λ n. Some (record { shard = shard; local = n })) at

-- who has a place in a round
pub slice_get_round_of : (spots : List Spot) (round at : ℕ) → slice_get (round_of spots round) at ≡ owner_among spots round at
slice_get_round_of [] round at = refl
slice_get_round_of (s ∷ ss) round at =
    let own = owners_from s.shard (s.start + round * s.quota) s.quota in
    let len : length own ≡ s.quota = length_owners_from s.shard (s.start + round * s.quota) s.quota in
    elim (cases_lt at s.quota) [
      | inl here ↦ slice_get_append_left own (round_of ss round) at (omega arith) ∙ (slice_get_owners_from s.shard (s.start + round * s.quota) s.quota at here ∙ sym (cond-true _ _ _ (lt-ltb at s.quota here)))
      | inr past ↦
          let split : at ≡ s.quota + (at - s.quota) = omega arith in
          ap (slice_get (round_of (s ∷ ss) round)) split ∙ (slice_get_append_right own (round_of ss round) s.quota (at - s.quota) len ∙ (slice_get_round_of ss round (at - s.quota) ∙ sym (cond-false _ _ _ (le-ltb at s.quota past))))
    ]

-- who has a place in a round of several
pub slice_get_rounds_from : (spots : List Spot) (from count round at : ℕ) → round < count → at < quotas_of (rows_of spots)
    → slice_get (rounds_from spots from count) (round * quotas_of (rows_of spots) + at) ≡ owner_among spots (from + round) at
slice_get_rounds_from spots from zero round at h k = absurd (omega arith)
slice_get_rounds_from spots from (suc count) zero at h k =
    let index : zero * quotas_of (rows_of spots) + at ≡ at = omega arith in
    let here : from + zero ≡ from = omega arith in
    rw (index, here) (slice_get_append_left (round_of spots from) (rounds_from spots (suc from) count) at (omega (arith, length_round_of spots from)) ∙ slice_get_round_of spots from at)
slice_get_rounds_from spots from (suc count) (suc round) at h k =
    let width = quotas_of (rows_of spots) in
    let index : suc round * width + at ≡ width + (round * width + at) = omega arith in
    let later : from + suc round ≡ suc from + round = omega arith in
    rw (index, later) (slice_get_append_right (round_of spots from) (rounds_from spots (suc from) count) width (round * width + at) (length_round_of spots from) ∙ slice_get_rounds_from spots (suc from) count round at (omega arith) k)

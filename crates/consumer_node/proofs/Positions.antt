-- How many of the first positions of a map are a shard's, and which local stands at the next one.
use Rattle.std.proofs.Common.{◌≡◌, ℕ, zero, suc, ◌+◌, ◌*◌, ◌<◌, ◌≤◌, ◌==◌, cond, Bool, true, false, List, [], ◌∷◌, length, take, Some, refl, sym, ap, ◌∙◌, inl, inr, arith}
use Rattle.std.specs.Prelude.{if◌then◌else◌}
use Rattle.std.specs.List.{AllByRecursion, slice_get, range_with_len}
use Rattle.std.proofs.lemmas.Bool.Decides.{nat_tests}
use Rattle.std.proofs.lemmas.List.Elements.{All-take, All-from_recursion, recursion_from_All}
use Rattle.std.proofs.lemmas.Bool.{cases_Bool, cond-true, cond-false, eq-eqb}
use Rattle.consumer_node.specs.inside.Names.{Owner, count_of}
use Rattle.fix_ante.specs.Locals.{locals_of}
use Rattle.cut_core.proofs.Dense.{IsDense, range_with_len_head}
use Rattle.consumer_node.proofs.Owners.{IsSmall}

-- ---- one owner more

abbrev pub one_if : Bool → ℕ
one_if b = if b then 1 else 0

count_first : (x : Owner) (os : List Owner) (shard : ℕ) → count_of shard (x ∷ os) ≡ one_if (x.shard == shard) + count_of shard os
count_first x os shard =
    elim (x.shard == shard) as (λ b. length (cond b (x.local ∷ locals_of shard os) (locals_of shard os)) ≡ one_if b + count_of shard os) [ true ↦ omega arith | false ↦ omega arith ]

pub count_more : (os : List Owner) (p : ℕ) (o : Owner) (shard : ℕ) → slice_get os p ≡ Some o
    → count_of shard (take (suc p) os) ≡ count_of shard (take p os) + one_if (o.shard == shard)
count_more [] p o shard e = absurd (cc)
count_more (x ∷ os) zero o shard e =
    let same : x ≡ o = cc in
    omega (arith, count_first x [] shard, ap (λ (y : Owner). one_if (y.shard == shard)) same)
count_more (x ∷ os) (suc p) o shard e =
    omega (arith, count_first x (take (suc p) os) shard, count_first x (take p os) shard, count_more os p o shard e)

pub count_own : (os : List Owner) (p : ℕ) (o : Owner) (shard : ℕ) → slice_get os p ≡ Some o → o.shard ≡ shard
    → count_of shard (take (suc p) os) ≡ count_of shard (take p os) + 1
count_own os p o shard e same = omega (arith, count_more os p o shard e, cond-true {A = ℕ} (o.shard == shard) 1 0 (eq-eqb o.shard shard same))

pub count_other : (os : List Owner) (p : ℕ) (o : Owner) (shard : ℕ) → slice_get os p ≡ Some o → (o.shard == shard) ≡ false
    → count_of shard (take (suc p) os) ≡ count_of shard (take p os)
count_other os p o shard e other = omega (arith, count_more os p o shard e, cond-false {A = ℕ} (o.shard == shard) 1 0 other)

-- ---- locals stand in their order

local_from : (os : List Owner) (p : ℕ) (o : Owner) (shard n count : ℕ) → locals_of shard os ≡ range_with_len n count → slice_get os p ≡ Some o → o.shard ≡ shard
    → o.local ≡ n + count_of shard (take p os)
local_from [] p o shard n count dense e same = absurd (cc)
local_from (x ∷ os) zero o shard n count dense e same =
    let here : x ≡ o = cc in
    let own : (x.shard == shard) ≡ true = eq-eqb x.shard shard (ap (λ (y : Owner). y.shard) here ∙ same) in
    let head = range_with_len_head n count x.local (locals_of shard os) (sym (cond-true _ _ _ own) ∙ dense) in
    omega (arith, head.2, ap (λ (y : Owner). y.local) here)
local_from (x ∷ os) (suc p) o shard n count dense e same =
    elim (cases_Bool (x.shard == shard)) [
      | inl own ↦
          let head = range_with_len_head n count x.local (locals_of shard os) (sym (cond-true _ _ _ own) ∙ dense) in
          omega (arith, local_from os p o shard (n + 1) head.0 head.3 e same, count_first x (take p os) shard, cond-true {A = ℕ} (x.shard == shard) 1 0 own)
      | inr other ↦
          omega (arith, local_from os p o shard n count (sym (cond-false _ _ _ other) ∙ dense) e same, count_first x (take p os) shard, cond-false {A = ℕ} (x.shard == shard) 1 0 other)
    ]

-- the local at a position is the number of its shard's positions before
pub local_at : (os : List Owner) (p : ℕ) (o : Owner) → IsDense o.shard os → slice_get os p ≡ Some o → o.local ≡ count_of o.shard (take p os)
local_at os p o dense e = omega (arith, local_from os p o o.shard 0 (count_of o.shard os) dense e refl)

-- ---- six shards

abbrev pub of_six : (ℕ → ℕ) → ℕ
of_six f = f 0 + f 1 + f 2 + f 3 + f 4 + f 5

one_of_six : (shard : ℕ) → shard < 6 → of_six (λ other. one_if (shard == other)) ≡ 1
one_of_six shard below = grind (arith, nat_tests)

-- each owner is of one of them
pub total : (os : List Owner) → AllByRecursion IsSmall os → of_six (λ shard. count_of shard os) ≡ length os
total [] small = refl
total (x ∷ os) small =
    omega (arith, total os small.1, one_of_six x.shard small.0, count_first x os 0, count_first x os 1, count_first x os 2, count_first x os 3, count_first x os 4, count_first x os 5)

pub six_le : (f g : ℕ → ℕ) (more : ℕ) → ((shard : ℕ) → shard < 6 → f shard ≤ g shard + more) → of_six f ≤ of_six g + 6 * more
six_le f g more each =
    omega (arith, each 0 (omega arith), each 1 (omega arith), each 2 (omega arith), each 3 (omega arith), each 4 (omega arith), each 5 (omega arith))

-- ---- the first of owners

pub small_take : (n : ℕ) (os : List Owner) → AllByRecursion IsSmall os → AllByRecursion IsSmall (take n os)
small_take n os small = recursion_from_All IsSmall (take n os) (All-take IsSmall n os (All-from_recursion IsSmall os small))

-- Two majorities have a common member; and what passes the test is one.
use Rattle.std.proofs.Common.{◌≡◌, ℕ, suc, ◌*◌, ◌<◌, true, length, List, ◌++◌, Contains, inl, inr, arith, length-append}
use Rattle.std.proofs.lemmas.List.Elements.{All-append}
use Rattle.std.proofs.lemmas.Bool.Decides.{leb_tells}
use Rattle.majority.specs.Ballots.{IsMajority, is_majority}
use Rattle.majority.proofs.Lists.{common_or_apart, IsDistinct_append, length_IsDistinct}

pub MajoritiesMeet : (n : ℕ) (xs ys : List ℕ) → IsMajority n xs → IsMajority n ys → (x : ℕ) × Contains xs x × Contains ys x
MajoritiesMeet n xs ys p q =
    elim (common_or_apart xs ys) [
      | inl common ↦ common
      | inr apart ↦
          let few = length_IsDistinct n (xs ++ ys) (All-append (λ x. x < n) xs ys p.within q.within) (IsDistinct_append xs ys p.distinct q.distinct apart) in
          absurd (omega (arith, p.most, q.most, length-append xs ys))
    ]

-- a list that passes the test for a majority of n
pub most_from_test : (n count : ℕ) (replicas : List ℕ) → count ≡ n → is_majority count replicas ≡ true → n < 2 * length replicas
most_from_test n count replicas same test =
    elim (leb_tells (suc count) (2 * length replicas)) [
      | inl more ↦ omega (arith, more.1)
      | inr less ↦ let fails = less.0 in absurd (cc)
    ]

-- The next ballot of a replica is the least one above the floor that it owns.
use Rattle.std.proofs.Common.{◌≡◌, ℕ, suc, ◌+◌, ◌*◌, ◌/◌, ◌%◌, ◌<◌, ◌≤◌, ◌==◌, true, false, inl, inr, sym, ap, ◌∙◌, mul-le-mul_right, add-mul, one-mul, div-add-mod', mod-lt, arith}
use Rattle.std.proofs.lemmas.Bool.Decides.{leb_tells, eqb_tells}
use Rattle.std.proofs.lemmas.Bool.{cases_lt}
use Rattle.std.proofs.Math.Nat.{add-mod_right}
use Rattle.std.proofs.lemmas.Nat.{mod-mul-add}
use Rattle.majority.specs.Ballots.{next_ballot, IsNextBallot}

-- products with the same factor are in the order of the others, a whole factor apart where these differ
apart : (p q n : ℕ) → p < q → p * n + n ≤ q * n
apart p q n less =
    let more : (p + 1) * n ≤ q * n = mul-le-mul_right n (omega arith) in
    omega (arith, add-mul p 1 n, one-mul n)

-- a number above 0 is not 0, and one that is tested to be 0 is
pub positive_test : (x : ℕ) → 0 < x → (x == 0) ≡ false
positive_test x positive = elim (eqb_tells x 0) [ inl zero' ↦ let same = zero'.1 in absurd (omega arith) | inr other ↦ other.0 ]

pub zero_from_test : (x : ℕ) → (x == 0) ≡ true → x ≡ 0
zero_from_test x e = elim (eqb_tells x 0) [ inl same ↦ same.1 | inr other ↦ let no_zero = other.0 in absurd (cc) ]

no_less : (q p n i floor other : ℕ) → i < n → q * n ≤ floor → p * n + i ≡ other → floor < other → q * n + i ≤ other
no_less q p n i floor other within start same above =
    elim (cases_lt p q) [
      | inl less ↦ let gap = apart p q n less in absurd (omega arith)
      | inr over ↦ let gap : q * n ≤ p * n = mul-le-mul_right n over in omega arith
    ]

no_less_above : (q p n i floor other : ℕ) → i < n → q * n + i ≤ floor → p * n + i ≡ other → floor < other → q * n + i + n ≤ other
no_less_above q p n i floor other within start same above =
    elim (cases_lt q p) [
      | inl more ↦ let gap = apart q p n more in omega arith
      | inr no_more ↦ let gap : p * n ≤ q * n = mul-le-mul_right n no_more in absurd (omega arith)
    ]

pub IsNextBallot_next : (replica n floor : ℕ) → replica < n → IsNextBallot replica n floor (next_ballot replica n floor)
IsNextBallot_next replica n floor within =
    let split : floor / n * n + floor % n ≡ floor = div-add-mod' floor n in
    let rest : floor % n < n = mod-lt floor (omega arith) in
    elim (leb_tells (suc floor) (floor / n * n + replica)) [
      | inl above ↦ rw above.0 (record {
        above = omega (arith, above.1);
        owned = mod-mul-add (floor / n) n replica within;
        least = λ other more owned. no_less (floor / n) (other / n) n replica floor other within (omega arith) (ap (λ r. other / n * n + r) (sym owned) ∙ div-add-mod' other n) more;
      })
      | inr below ↦ rw below.0 (record {
        above = omega arith;
        owned = add-mod_right (floor / n * n + replica) n ∙ mod-mul-add (floor / n) n replica within;
        least = λ other more owned. no_less_above (floor / n) (other / n) n replica floor other within (omega (arith, below.1)) (ap (λ r. other / n * n + r) (sym owned) ∙ div-add-mod' other n) more;
      })
    ]

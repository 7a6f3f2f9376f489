-- The covered owners by the windows that are over, and a search among those by a measure that grows.
use Rattle.std.proofs.Common.{◌≡◌, ℕ, zero, suc, ◌*◌, ◌<◌, ◌≤◌, true, false, List, [], ◌∷◌, ◌++◌, length, take, drop, get_or, Option, Some, None, refl, sym, ap, ◌∙◌, inl, inr, arith, append-nil, append_assoc, length-append}
use Rattle.std.specs.Prelude.{nat_le}
use Rattle.std.specs.List.{slice_get, flat_map}
use Rattle.std.specs.List.Sorted.{IsNonDecreasingBy, IsPartitionPoint}
use Rattle.std.specs.Option.{MatchOption}
use Rattle.std.proofs.lemmas.Bool.{leb-true, leb-false}
use Rattle.std.proofs.lemmas.List.{take-take, take_all, take-append-drop, length-replicate}
use Rattle.std.proofs.lemmas.List.Concat.{flat_map-append}
use Rattle.std.proofs.lemmas.Option.{slice_get-get_or, slice_get_within, slice_get_cases, get_or_from_slice_get}
use Rattle.fix_ante.specs.declared.spots.Owner.{Owner}
use Rattle.fix_ante.specs.Windows.{width_of}
use Rattle.fix_ante.proofs.LayoutLemmas.{length_rounds_from}
use Rattle.cut_core.specs.declared.past.Past.{Past}
use Rattle.cut_core.specs.inside.Kept.{owners_in, numbers_in}

-- the covered owners of the first windows that are over
abbrev pub covered_by : ℕ → List Past → List Owner
covered_by count past = flat_map owners_in (take count past)

-- one window more
pub covered_by_more : (past : List Past) (at : ℕ) (p : Past) → slice_get past at ≡ Some p → covered_by (suc at) past ≡ covered_by at past ++ owners_in p
covered_by_more [] at p e = absurd (cc)
covered_by_more (q ∷ qs) zero p e =
    let same : q ≡ p = cc in
    append-nil (owners_in q) ∙ ap owners_in same
covered_by_more (q ∷ qs) (suc at) p e =
    ap (λ t. owners_in q ++ t) (covered_by_more qs at p e) ∙ sym (append_assoc (owners_in q) (covered_by at qs) (owners_in p))

-- the windows before one, the one, and those after it
pub covered_by_split : (past : List Past) (at : ℕ) (p : Past) → slice_get past at ≡ Some p
    → flat_map owners_in past ≡ covered_by at past ++ (owners_in p ++ flat_map owners_in (drop (suc at) past))
covered_by_split [] at p e = absurd (cc)
covered_by_split (q ∷ qs) zero p e =
    let same : q ≡ p = cc in
    ap (λ x. owners_in x ++ flat_map owners_in qs) same
covered_by_split (q ∷ qs) (suc at) p e =
    ap (λ t. owners_in q ++ t) (covered_by_split qs at p e) ∙ sym (append_assoc (owners_in q) (covered_by at qs) (owners_in p ++ flat_map owners_in (drop (suc at) qs)))

-- all of them
pub covered_by_all : (past : List Past) → covered_by (length past) past ≡ flat_map owners_in past
covered_by_all past = ap (flat_map owners_in) (take_all (length past) past (omega arith))

-- a window's number stands at each of its positions
length_in : (p : Past) → length (numbers_in p) ≡ length (owners_in p)
length_in p = omega (arith, length-replicate {A = ℕ} (p.rounds * width_of p.window) p.window.number, length_rounds_from p.window.spots 0 p.rounds)

pub length_numbers_in : (past : List Past) → length (flat_map numbers_in past) ≡ length (flat_map owners_in past)
length_numbers_in [] = refl
length_numbers_in (p ∷ ps) =
    omega (arith, length-append (numbers_in p) (flat_map numbers_in ps), length-append (owners_in p) (flat_map owners_in ps), length_in p, length_numbers_in ps)

pub numbers_by_split : (past : List Past) (at : ℕ) (p : Past) → slice_get past at ≡ Some p
    → flat_map numbers_in past ≡ flat_map numbers_in (take at past) ++ (numbers_in p ++ flat_map numbers_in (drop (suc at) past))
numbers_by_split [] at p e = absurd (cc)
numbers_by_split (q ∷ qs) zero p e =
    let same : q ≡ p = cc in
    ap (λ x. numbers_in x ++ flat_map numbers_in qs) same
numbers_by_split (q ∷ qs) (suc at) p e =
    ap (λ t. numbers_in q ++ t) (numbers_by_split qs at p e) ∙ sym (append_assoc (numbers_in q) (flat_map numbers_in (take at qs)) (numbers_in p ++ flat_map numbers_in (drop (suc at) qs)))

-- ---- a search among the windows, by a measure that grows with the owners

-- a measure of owners, 0 where there are none, and never less with more of them
pub record Grows (measure : List Owner → ℕ) : Type 0 where
  pub none : measure [] ≡ 0
  pub more : (xs ys : List Owner) → measure xs ≤ measure (xs ++ ys)

-- each window knows the measure up to its end
abbrev pub IsKeyOf : (List Owner → ℕ) → (Past → ℕ) → List Past → Type 0
IsKeyOf measure key past = (at : ℕ) (p : Past) → slice_get past at ≡ Some p → key p ≡ measure (covered_by at past ++ owners_in p)

key_at : (measure : List Owner → ℕ) (key : Past → ℕ) (past : List Past) (at : ℕ) (d : Past) → IsKeyOf measure key past → at < length past
    → key (get_or past at d) ≡ measure (covered_by (suc at) past)
key_at measure key past at d keys below =
    let e = slice_get-get_or past at d below in
    keys at (get_or past at d) e ∙ ap measure (sym (covered_by_more past at (get_or past at d) e))

grown : (measure : List Owner → ℕ) (past : List Past) (i j : ℕ) → Grows measure → i ≤ j → measure (covered_by i past) ≤ measure (covered_by j past)
grown measure past i j grows le =
    let front = covered_by j past in
    let first : covered_by i past ≡ flat_map owners_in (take i (take j past)) = ap (flat_map owners_in) (sym (take-take i j past le)) in
    let split : take i (take j past) ++ drop i (take j past) ≡ take j past = take-append-drop i (take j past) in
    let parts : front ≡ flat_map owners_in (take i (take j past)) ++ flat_map owners_in (drop i (take j past)) =
    ap (flat_map owners_in) (sym split) ∙ flat_map-append owners_in (take i (take j past)) (drop i (take j past)) in
    let le = grows.more (flat_map owners_in (take i (take j past))) (flat_map owners_in (drop i (take j past))) in
    omega (arith, ap measure first, ap measure parts)

pub rising : (measure : List Owner → ℕ) (key : Past → ℕ) (past : List Past) → Grows measure → IsKeyOf measure key past → IsNonDecreasingBy key past
rising measure key past grows keys = λ i j d le below.
    let low = key_at measure key past i d keys (omega arith) in
    let high = key_at measure key past j d keys below in
    let le = grown measure past (suc i) (suc j) grows (omega arith) in
    omega arith

-- what a search finds: the window that reaches past the value, or none where they all stay below
abbrev pub IsFoundAt : (List Owner → ℕ) → List Past → ℕ → ℕ → Type 0
IsFoundAt measure past value at =
    (measure (covered_by at past) ≤ value)
    × MatchOption (slice_get past at) (measure (flat_map owners_in past) ≤ value) (λ p. value < measure (covered_by at past ++ owners_in p))

at_or_past : (measure : List Owner → ℕ) (key : Past → ℕ) (past : List Past) (value at : ℕ) (found : Option Past) → IsKeyOf measure key past
    → measure (covered_by at past) ≤ value → at ≤ length past → ((p : Past) → slice_get past at ≡ Some p → nat_le (key p) value ≡ false)
    → slice_get past at ≡ found → MatchOption found (measure (flat_map owners_in past) ≤ value) (λ p. value < measure (covered_by at past ++ owners_in p))
at_or_past measure key past value at (Some p) keys low bound fails e =
    let above = leb-false (key p) value (fails p e) in
    omega (arith, keys at p e)
at_or_past measure key past value at None keys low bound fails e =
    elim ((slice_get_cases past at).1) [
      | inl there ↦ absurd (let no : None ≡ Some there.0 = sym e ∙ there.2 in cc)
      | inr over ↦
          let all : covered_by at past ≡ flat_map owners_in past = ap (flat_map owners_in) (take_all at past over.0) in
          omega (arith, ap measure all)
    ]

low_at : (measure : List Owner → ℕ) (key : Past → ℕ) (past : List Past) (value at : ℕ) → Grows measure → IsKeyOf measure key past → at ≤ length past
    → ((k : ℕ) (d : Past) → 0 ≤ k → k < at → nat_le (key (get_or past k d)) value ≡ true) → measure (covered_by at past) ≤ value
low_at measure key past value zero grows keys bound passes = omega (arith, grows.none)
low_at measure key past value (suc k) grows keys bound passes =
    elim ((slice_get_cases past k).1) [
      | inl there ↦
          let low = leb-true (key (get_or past k there.0)) value (passes k there.0 (omega arith) (omega arith)) in
          let next = covered_by_more past k there.0 there.2 in
          omega (arith, ap key there.3, keys k there.0 there.2, ap measure next)
      | inr over ↦ absurd (omega (arith, over.0))
    ]

pub found_at : (measure : List Owner → ℕ) (key : Past → ℕ) (past : List Past) (value at : ℕ) → Grows measure → IsKeyOf measure key past → at ≤ length past
    → IsPartitionPoint (λ (p : Past). nat_le (key p) value ≡ true) (λ (p : Past). nat_le (key p) value ≡ false) past at → IsFoundAt measure past value at
found_at measure key past value at grows keys bound point =
    let low : measure (covered_by at past) ≤ value = low_at measure key past value at grows keys bound point.0 in
    (low, at_or_past measure key past value at (slice_get past at) keys low bound (λ p e. ap (λ x. nat_le (key x) value) (sym (get_or_from_slice_get past at p p e)) ∙ point.1 at p (omega arith) (slice_get_within past at p e)) refl)

-- Values under numbers, of which the first stand in a list.
use Rattle.std.proofs.Common.{◌≡◌, ℕ, zero, suc, ◌+◌, ◌<◌, ◌≤◌, ◌==◌, false, nat_lt, cond, List, [], ◌∷◌, ◌++◌, length, map, take, Some, refl, sym, ap, ◌∙◌, arith}
use Rattle.std.specs.List.{AllByRecursion, slice_get, slice_set}
use Rattle.std.specs.BTreeMap.{insert_entry}
use Rattle.std.specs.Ordering.{nat_cmp, match_ordering}
use Rattle.std.specs.declared.cmp.Ordering.TheVariants.{Less, Equal, Greater}
use Rattle.std.proofs.lemmas.Bool.Decides.{nat_tests}
use Rattle.std.proofs.lemmas.Cmp.{ranked}
use Rattle.report_text.specs.inside.Numbers.{numbered, AreFrom}
use Rattle.report_text.proofs.Keyed.{find, at_is, itself, not_same_above}

cmp_same : (q : ℕ) → nat_cmp q q ≡ Equal
cmp_same q =
    let least : nat_lt q q ≡ false = grind (arith, nat_tests) in
    ap (λ b. cond b Less (cond (q == q) Equal Greater)) least ∙ ap (λ b. cond b Equal Greater) (itself q)

cmp_above : (q k : ℕ) → k < q → nat_cmp q k ≡ Greater
cmp_above q k above =
    let more : nat_lt q k ≡ false = grind (arith, nat_tests) in
    ap (λ b. cond b Less (cond (q == k) Equal Greater)) more ∙ ap (λ b. cond b Equal Greater) (not_same_above q k above)

module _ {V : Type 0} where
  -- ---- what is found

  pub find_first : (a : ℕ) (vs : List V) (rest : List (ℕ × V)) (i : ℕ) → i < length vs → find (a + i) (numbered a vs ++ rest) ≡ slice_get vs i
  find_first a [] rest i below = absurd (omega arith)
  find_first a (v ∷ vs) rest zero below =
      let same : a + 0 ≡ a = omega arith in
      ap (λ b. cond b (Some v) (find (a + 0) (numbered (a + 1) vs ++ rest))) (at_is (a + 0) a ∙ ap (λ q. q == a) same ∙ itself a)
  find_first a (v ∷ vs) rest (suc i) below =
      let next : a + suc i ≡ a + 1 + i = omega arith in
      ap (λ b. cond b (Some v) (find (a + suc i) (numbered (a + 1) vs ++ rest))) (at_is (a + suc i) a ∙ not_same_above (a + suc i) a (omega arith))
      ∙ ap (λ q. find q (numbered (a + 1) vs ++ rest)) next
      ∙ find_first (a + 1) vs rest i (omega arith)

  pub find_rest : (a : ℕ) (vs : List V) (rest : List (ℕ × V)) (q : ℕ) → a + length vs ≤ q → find q (numbered a vs ++ rest) ≡ find q rest
  find_rest a [] rest q past = refl
  find_rest a (v ∷ vs) rest q past =
      ap (λ b. cond b (Some v) (find q (numbered (a + 1) vs ++ rest))) (at_is q a ∙ not_same_above q a (omega arith))
      ∙ find_rest (a + 1) vs rest q (omega arith)

  -- ---- what is put

  pub put_first : (a : ℕ) (vs : List V) (rest : List (ℕ × V)) (i : ℕ) (w : V) → i < length vs
      → insert_entry nat_cmp (numbered a vs ++ rest) (a + i) w ≡ numbered a (slice_set vs i w) ++ rest
  put_first a [] rest i w below = absurd (omega arith)
  put_first a (v ∷ vs) rest zero w below =
      let same : a + 0 ≡ a = omega arith in
      ap (λ o. match_ordering o ((a + 0, w) ∷ (a, v) ∷ (numbered (a + 1) vs ++ rest)) ((a, w) ∷ (numbered (a + 1) vs ++ rest)) ((a, v) ∷ insert_entry nat_cmp (numbered (a + 1) vs ++ rest) (a + 0) w))
      (ap (λ q. nat_cmp q a) same ∙ cmp_same a)
  put_first a (v ∷ vs) rest (suc i) w below =
      let next : a + suc i ≡ a + 1 + i = omega arith in
      ap (λ o. match_ordering o ((a + suc i, w) ∷ (a, v) ∷ (numbered (a + 1) vs ++ rest)) ((a, w) ∷ (numbered (a + 1) vs ++ rest)) ((a, v) ∷ insert_entry nat_cmp (numbered (a + 1) vs ++ rest) (a + suc i) w))
      (cmp_above (a + suc i) a (omega arith))
      ∙ ap (λ q. (a, v) ∷ insert_entry nat_cmp (numbered (a + 1) vs ++ rest) q w) next
      ∙ ap (λ es. (a, v) ∷ es) (put_first (a + 1) vs rest i w (omega arith))

  pub put_rest : (a : ℕ) (vs : List V) (rest : List (ℕ × V)) (q : ℕ) (w : V) → a + length vs ≤ q
      → insert_entry nat_cmp (numbered a vs ++ rest) q w ≡ numbered a vs ++ insert_entry nat_cmp rest q w
  put_rest a [] rest q w past = refl
  put_rest a (v ∷ vs) rest q w past =
      ap (λ o. match_ordering o ((q, w) ∷ (a, v) ∷ (numbered (a + 1) vs ++ rest)) ((a, w) ∷ (numbered (a + 1) vs ++ rest)) ((a, v) ∷ insert_entry nat_cmp (numbered (a + 1) vs ++ rest) q w)) (cmp_above q a (omega arith))
      ∙ ap (λ es. (a, v) ∷ es) (put_rest (a + 1) vs rest q w (omega arith))

  -- one more value of the list
  pub one_more : (a : ℕ) (vs : List V) (rest : List (ℕ × V)) (w : V) → numbered a (vs ++ w ∷ []) ++ rest ≡ numbered a vs ++ (a + length vs, w) ∷ rest
  one_more a [] rest w = let same : a ≡ a + 0 = omega arith in ap (λ q. (q, w) ∷ rest) same
  one_more a (v ∷ vs) rest w =
      let next : a + 1 + length vs ≡ a + suc (length vs) = omega arith in
      ap (λ es. (a, v) ∷ es) (one_more (a + 1) vs rest w ∙ ap (λ q. numbered (a + 1) vs ++ (q, w) ∷ rest) next)

  -- one more value of those that are taken
  take_more : (a n : ℕ) (vs : List V) (w : V) → slice_get vs n ≡ Some w → numbered a (take n vs) ++ (a + n, w) ∷ [] ≡ numbered a (take (suc n) vs)
  take_more a n [] w there = absurd (cc)
  take_more a zero (v ∷ vs) w there =
      let same : v ≡ w = cc in
      let at : a + 0 ≡ a = omega arith in
      ap (λ q. (q, w) ∷ []) at ∙ ap (λ x. (a, x) ∷ []) (sym same)
  take_more a (suc n) (v ∷ vs) w there =
      let next : a + suc n ≡ a + 1 + n = omega arith in
      ap (λ q. (a, v) ∷ (numbered (a + 1) (take n vs) ++ (q, w) ∷ [])) next ∙ ap (λ es. (a, v) ∷ es) (take_more (a + 1) n vs w there)

  pub one_taken : (n : ℕ) (vs : List V) (w : V) → slice_get vs n ≡ Some w → numbered 0 (take n vs) ++ (n, w) ∷ [] ≡ numbered 0 (take (n + 1) vs)
  one_taken n vs w there =
      let at : n ≡ 0 + n = omega arith in
      let next : suc n ≡ n + 1 = omega arith in
      ap (λ q. numbered 0 (take n vs) ++ (q, w) ∷ []) at ∙ take_more 0 n vs w there ∙ ap (λ k. numbered 0 (take k vs)) next

  pub all_taken : (n : ℕ) (vs : List V) → length vs ≤ n → take n vs ≡ vs
  all_taken zero [] past = refl
  all_taken zero (v ∷ vs) past = absurd (omega (arith, past))
  all_taken (suc n) [] past = refl
  all_taken (suc n) (v ∷ vs) past = ap (λ xs. v ∷ xs) (all_taken n vs (omega (arith, past)))

  -- the first entry
  pub first_number : (es tail : List (ℕ × V)) (e x : ℕ × V) → es ≡ e ∷ tail → slice_get es 0 ≡ Some x → e.0 ≡ x.0
  first_number es tail e x split first =
      let found : Some e ≡ Some x = sym (ap (λ (l : List (ℕ × V)). slice_get l 0) split) ∙ first in
      let same : e ≡ x = cc in
      ap (λ p. p.0) same

  pub no_entries : (es : List (ℕ × V)) → length es ≡ 0 → es ≡ []
  no_entries [] none = refl
  no_entries (e ∷ es) none = absurd (omega (arith, none))

  -- numbers above one are numbers from the next one on
  pub above : (n : ℕ) (es : List (ℕ × V)) → AllByRecursion (λ k. nat_cmp n k ≡ Less) (map (λ e. e.0) es) → AreFrom (n + 1) es
  above n [] all = tt
  above n (e ∷ es) all = (let less : n < e.0 = ranked n e.0 Less (sym all.0) in omega arith, above n es all.1)

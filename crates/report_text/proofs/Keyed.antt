-- Lists of values under numbers that rise.
use Rattle.std.proofs.Common.{◌≡◌, ℕ, zero, suc, ◌+◌, ◌<◌, ◌≤◌, ◌==◌, Bool, true, false, nat_lt, cond, add-zero, fold, map, List, [], ◌∷◌, ◌++◌, Option, Some, None, refl, ap, subst, ◌∙◌, arith}
use Rattle.std.specs.List.{AllByRecursion, range_with_len, filter_map, flat_map, count_by, cons_option}
use Rattle.std.specs.Option.{option_or, option_map, option_map_or, IsSome}
use Rattle.std.specs.Map.{lookup}
use Rattle.std.specs.BTreeMap.{insert_entry, is_at}
use Rattle.std.specs.Ordering.{nat_cmp, match_ordering, is_eq}
use Rattle.std.specs.declared.cmp.Ordering.TheVariants.{Less, Equal, Greater}
use Rattle.std.proofs.lemmas.Bool.Decides.{nat_tests}
use Rattle.std.proofs.lemmas.Cmp.{ranked}

-- a number is found where it is equal
pub at_is : (q k : ℕ) → is_at (nat_cmp q) k ≡ (q == k)
at_is q k =
    elim (nat_lt q k) as (λ b. nat_lt q k ≡ b → is_eq (cond b Less (cond (q == k) Equal Greater)) ≡ (q == k)) [
      | true ↦ λ e. grind (arith, nat_tests)
      | false ↦ λ _. elim (q == k) as (λ b. is_eq (cond b Equal Greater) ≡ b) [ true ↦ refl | false ↦ refl ]
    ] refl

pub not_same : (q k : ℕ) → q < k → (q == k) ≡ false
not_same q k h = grind (arith, nat_tests)

pub not_same_above : (q k : ℕ) → k < q → (q == k) ≡ false
not_same_above q k h = grind (arith, nat_tests)

pub itself : (q : ℕ) → (q == q) ≡ true
itself q = grind (arith, nat_tests)

pub same_number : (q k : ℕ) → (q == k) ≡ true → q ≡ k
same_number q k h = grind (arith, nat_tests)

pub flipped : (a b : ℕ) → (a == b) ≡ (b == a)
flipped a b = grind (arith, nat_tests)

-- the first of several options
pub or_none : {A : Type 0} (o : Option A) → option_or o None ≡ o
or_none None = refl
or_none (Some x) = refl

pub or_assoc : {A : Type 0} (a b c : Option A) → option_or (option_or a b) c ≡ option_or a (option_or b c)
or_assoc None b c = refl
or_assoc (Some x) b c = refl

-- two functions that agree
pub flat_map_same : {X A : Type 0} (f g : X → List A) → ((x : X) → f x ≡ g x) → (xs : List X) → flat_map f xs ≡ flat_map g xs
flat_map_same f g same [] = refl
flat_map_same f g same (x ∷ xs) = ap (λ first. first ++ flat_map f xs) (same x) ∙ ap (λ rest. g x ++ rest) (flat_map_same f g same xs)

counted_same : {X : Type 0} (p q : X → Bool) → ((x : X) → p x ≡ q x) → (a : ℕ) (xs : List X)
    → fold (λ a x. a + cond (p x) 1 0) a xs ≡ fold (λ a x. a + cond (q x) 1 0) a xs
counted_same p q same a [] = refl
counted_same p q same a (x ∷ xs) = ap (λ b. fold (λ a x. a + cond (p x) 1 0) (a + cond b 1 0) xs) (same x) ∙ counted_same p q same (a + cond (q x) 1 0) xs

pub count_by_same : {X : Type 0} (p q : X → Bool) → ((x : X) → p x ≡ q x) → (xs : List X) → count_by p xs ≡ count_by q xs
count_by_same p q same xs = counted_same p q same 0 xs

module _ {V : Type 0} where
  abbrev pub find : ℕ → List (ℕ × V) → Option V
  find q es = lookup (is_at (nat_cmp q)) es

  -- the numbers rise, from one on
  abbrev pub RisesFrom : ℕ → List (ℕ × V) → Type 0
  RisesFrom n [] = Unit {0}
  RisesFrom n (e ∷ es) = (n ≤ e.0) × RisesFrom (e.0 + 1) es

  RisesFrom_lower : (m n : ℕ) (es : List (ℕ × V)) → m ≤ n → RisesFrom n es → RisesFrom m es
  RisesFrom_lower m n [] h r = tt
  RisesFrom_lower m n (e ∷ es) h r = (omega (arith, r.0), r.1)

  pub RisesFrom_insert : (n : ℕ) (es : List (ℕ × V)) (k : ℕ) (v : V) → n ≤ k → RisesFrom n es → RisesFrom n (insert_entry nat_cmp es k v)
  RisesFrom_insert n [] k v h r = (h, tt)
  RisesFrom_insert n (e ∷ es) k v h r =
      elim (nat_cmp k e.0) as (λ o. o ≡ nat_cmp k e.0 → RisesFrom n (match_ordering o ((k, v) ∷ e ∷ es) ((e.0, v) ∷ es) (e ∷ insert_entry nat_cmp es k v))) [
        | Less ↦ λ is. (h, (omega (arith, ranked k e.0 Less is), r.1))
        | Equal ↦ λ _. (r.0, r.1)
        | Greater ↦ λ is. (r.0, RisesFrom_insert (e.0 + 1) es k v (omega (arith, ranked k e.0 Greater is)) r.1)
      ] refl

  -- what holds of each entry
  pub all_insert : (P : ℕ × V → Type 0) (es : List (ℕ × V)) (k : ℕ) (v : V) → P (k, v) → AllByRecursion P es → AllByRecursion P (insert_entry nat_cmp es k v)
  all_insert P [] k v here all = (here, tt)
  all_insert P (e ∷ es) k v here all =
      elim (nat_cmp k e.0) as (λ o. o ≡ nat_cmp k e.0 → AllByRecursion P (match_ordering o ((k, v) ∷ e ∷ es) ((e.0, v) ∷ es) (e ∷ insert_entry nat_cmp es k v))) [
        | Less ↦ λ _. (here, all)
        | Equal ↦ λ is. (subst (λ (q : ℕ). P (q, v)) (ranked k e.0 Equal is) here, all.1)
        | Greater ↦ λ _. (all.0, all_insert P es k v here all.1)
      ] refl

  pub find_insert : (es : List (ℕ × V)) (k : ℕ) (v : V) (q : ℕ) → find q (insert_entry nat_cmp es k v) ≡ cond (q == k) (Some v) (find q es)
  find_insert [] k v q = ap (λ b. cond b (Some v) None) (at_is q k)
  find_insert (e ∷ es) k v q =
      elim (nat_cmp k e.0) as (λ o. o ≡ nat_cmp k e.0 → find q (match_ordering o ((k, v) ∷ e ∷ es) ((e.0, v) ∷ es) (e ∷ insert_entry nat_cmp es k v)) ≡ cond (q == k) (Some v) (find q (e ∷ es))) [
        | Less ↦ λ _. ap (λ b. cond b (Some v) (find q (e ∷ es))) (at_is q k)
        | Equal ↦ λ is.
            let same : k ≡ e.0 = ranked k e.0 Equal is in
            rw (at_is q e.0, same) (elim (q == e.0) as (λ b. cond b (Some v) (find q es) ≡ cond b (Some v) (cond b (Some e.1) (find q es))) [ true ↦ refl | false ↦ refl ])
        | Greater ↦ λ is.
            let above : e.0 < k = ranked k e.0 Greater is in
            rw (at_is q e.0, find_insert es k v q) (elim (q == e.0) as (λ b. (q == e.0) ≡ b → cond b (Some e.1) (cond (q == k) (Some v) (find q es)) ≡ cond (q == k) (Some v) (cond b (Some e.1) (find q es))) [
              | true ↦ λ here. rw (not_same q k (let same : q ≡ e.0 = same_number q e.0 here in omega arith)) refl
              | false ↦ λ _. refl
            ] refl)
      ] refl

  pub find_below : (n : ℕ) (es : List (ℕ × V)) (q : ℕ) → RisesFrom n es → q < n → find q es ≡ None
  find_below n [] q r h = refl
  find_below n (e ∷ es) q r h =
      rw (at_is q e.0, not_same q e.0 (omega (arith, r.0))) (find_below (e.0 + 1) es q r.1 (omega (arith, r.0)))

  -- the number with its value, where it has one
  abbrev pub entry_for : (ℕ → Option V) → ℕ → Option (ℕ × V)
  entry_for f k = option_map (λ v. (k, v)) (f k)

  -- the entries are those of the numbers that have a value, in order
  pub entries_of_range : (count n : ℕ) (es : List (ℕ × V)) (f : ℕ → Option V) → RisesFrom n es → ((q : ℕ) → n ≤ q → f q ≡ find q es)
      → ((q : ℕ) → n ≤ q → IsSome (f q) → q < n + count) → filter_map (entry_for f) (range_with_len n count) ≡ es
  entries_of_range zero n [] f r tells within = refl
  entries_of_range zero n (e ∷ es) f r tells within =
      let found : f e.0 ≡ Some e.1 = tells e.0 r.0 ∙ rw (at_is e.0 e.0, itself e.0) refl in
      let few : e.0 < n + 0 = within e.0 r.0 (rw found refl) in
      absurd (omega (arith, r.0))
  entries_of_range (suc count) n [] f r tells within =
      let none : f n ≡ None = tells n (omega arith) in
      rw none (entries_of_range count (n + 1) [] f tt (λ q h. tells q (omega arith)) (λ q h s. let w : q < n + suc count = within q (omega arith) s in omega arith))
  entries_of_range (suc count) n (e ∷ es) f r tells within =
      elim (n == e.0) as (λ b. (n == e.0) ≡ b → filter_map (entry_for f) (range_with_len n (suc count)) ≡ e ∷ es) [
        | true ↦ λ is.
            let same : n ≡ e.0 = same_number n e.0 is in
            let found : f n ≡ Some e.1 = tells n (omega arith) ∙ rw (at_is n e.0, is) refl in
            let rest : filter_map (entry_for f) (range_with_len (n + 1) count) ≡ es =
            entries_of_range count (n + 1) es f (rw same r.1)
            (λ q h. tells q (omega arith) ∙ rw (at_is q e.0, not_same_above q e.0 (omega arith)) refl)
            (λ q h s. let w : q < n + suc count = within q (omega arith) s in omega arith) in
            rw (found, rest) (rw same refl)
        | false ↦ λ is.
            let above : n + 1 ≤ e.0 = grind (arith, nat_tests, r.0) in
            let none : f n ≡ None = tells n (omega arith) ∙ find_below (n + 1) (e ∷ es) n (above, r.1) (omega arith) in
            rw none (entries_of_range count (n + 1) (e ∷ es) f (above, r.1) (λ q h. tells q (omega arith)) (λ q h s. let w : q < n + suc count = within q (omega arith) s in omega arith))
      ] refl

  pub flat_map_for : {A : Type 0} (g : ℕ → V → List A) (f : ℕ → Option V) (ks : List ℕ)
      → flat_map (λ k. option_map_or (g k) (f k) []) ks ≡ flat_map (λ e. g e.0 e.1) (filter_map (entry_for f) ks)
  flat_map_for g f [] = refl
  flat_map_for g f (k ∷ ks) =
      elim (f k) as (λ o. option_map_or (g k) o [] ++ flat_map (λ k. option_map_or (g k) (f k) []) ks ≡ flat_map (λ e. g e.0 e.1) (cons_option (option_map (λ v. (k, v)) o) (filter_map (entry_for f) ks))) [
        | None ↦ flat_map_for g f ks
        | Some v ↦ ap (λ rest. g k v ++ rest) (flat_map_for g f ks)
      ]

  counted_for : (h : V → Bool) (f : ℕ → Option V) (a : ℕ) (ks : List ℕ)
      → fold (λ a k. a + cond (option_map_or h (f k) false) 1 0) a ks ≡ fold (λ a e. a + cond (h e.1) 1 0) a (filter_map (entry_for f) ks)
  counted_for h f a [] = refl
  counted_for h f a (k ∷ ks) =
      elim (f k) as (λ o. fold (λ a k. a + cond (option_map_or h (f k) false) 1 0) (a + cond (option_map_or h o false) 1 0) ks ≡ fold (λ a e. a + cond (h e.1) 1 0) a (cons_option (option_map (λ v. (k, v)) o) (filter_map (entry_for f) ks))) [
        | None ↦ rw add-zero (counted_for h f a ks)
        | Some v ↦ counted_for h f (a + cond (h v) 1 0) ks
      ]

  pub count_by_for : (h : V → Bool) (f : ℕ → Option V) (ks : List ℕ)
      → count_by (λ k. option_map_or h (f k) false) ks ≡ count_by (λ e. h e.1) (filter_map (entry_for f) ks)
  count_by_for h f ks = counted_for h f 0 ks

-- values that are seen through a function
module _ {X V : Type 0} (now : X → V) where
  abbrev pub seen : List (ℕ × X) → List (ℕ × V)
  seen es = map (λ e. (e.0, now e.1)) es

  pub find_seen : (es : List (ℕ × X)) (q : ℕ) → find q (seen es) ≡ option_map now (find q es)
  find_seen [] q = refl
  find_seen (e ∷ es) q =
      elim (is_at (nat_cmp q) e.0) as (λ b. cond b (Some (now e.1)) (find q (seen es)) ≡ option_map now (cond b (Some e.1) (find q es))) [
        | true ↦ refl
        | false ↦ find_seen es q
      ]

  pub insert_seen : (es : List (ℕ × X)) (k : ℕ) (x : X) → seen (insert_entry nat_cmp es k x) ≡ insert_entry nat_cmp (seen es) k (now x)
  insert_seen [] k x = refl
  insert_seen (e ∷ es) k x =
      elim (nat_cmp k e.0) as (λ o. seen (match_ordering o ((k, x) ∷ e ∷ es) ((e.0, x) ∷ es) (e ∷ insert_entry nat_cmp es k x)) ≡ match_ordering o ((k, now x) ∷ seen (e ∷ es)) ((e.0, now x) ∷ seen es) ((e.0, now e.1) ∷ insert_entry nat_cmp (seen es) k (now x))) [
        | Less ↦ refl
        | Equal ↦ refl
        | Greater ↦ ap (λ rest. (e.0, now e.1) ∷ rest) (insert_seen es k x)
      ]

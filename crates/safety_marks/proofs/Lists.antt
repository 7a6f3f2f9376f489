-- Lists: what holds of each member given the earlier ones, two beginnings of one list, and members that pass a reading.
use Rattle.std.proofs.Common.{◌≡◌, ◌∙◌, ◌⊎◌, List, [], ◌∷◌, ◌++◌, filter_map, Contains, Option, Some, None, append_assoc, append-nil, refl, sym, ap, subst, inl, inr}
use Rattle.std.specs.List.{cons_option}
use Rattle.majority.proofs.Lists.{Contains_cases, Contains_here, Contains_later, Contains_none}
use Rattle.runs.specs.Marks.{IsPrefix, EachAfter}

-- ---- each after the earlier ones

module _ {A : Type 0} (P : List A → A → Type 0) where
  -- what holds of each that stands there
  pub each_after : (before xs : List A) → ((front : List A) (x : A) → IsPrefix (front ++ x ∷ []) xs → P (before ++ front) x) → EachAfter P before xs
  each_after before [] each = tt
  each_after before (x ∷ xs) each = (
    subst (λ l. P l x) (append-nil before) (each [] x (xs, refl)),
    each_after (before ++ x ∷ []) xs (λ front y p.
        subst (λ l. P l y) (sym (append_assoc before (x ∷ []) front)) (each (x ∷ front) y (p.0, ap (λ l. x ∷ l) p.1))),
  )

  pub each_join : (before xs ys : List A) → EachAfter P before xs → EachAfter P (before ++ xs) ys → EachAfter P before (xs ++ ys)
  each_join before [] ys first later = subst (λ l. EachAfter P l ys) (append-nil before) later
  each_join before (x ∷ xs) ys first later = (
    first.0,
    each_join (before ++ x ∷ []) xs ys first.1 (subst (λ l. EachAfter P l ys) (sym (append_assoc before (x ∷ []) xs)) later),
  )

  pub each_weaken : (Q : List A → A → Type 0) (before xs : List A) → ((front : List A) (x : A) → P front x → Q front x) → EachAfter P before xs
      → EachAfter Q before xs
  each_weaken Q before [] weaker each = tt
  each_weaken Q before (x ∷ xs) weaker each = (weaker before x each.0, each_weaken Q (before ++ x ∷ []) xs weaker each.1)

-- ---- beginnings

-- of two beginnings of one list one begins the other
pub one_begins : {A : Type 0} (xs ys zs : List A) → IsPrefix xs zs → IsPrefix ys zs → IsPrefix xs ys ⊎ IsPrefix ys xs
one_begins [] ys zs p q = inl (ys, refl)
one_begins (x ∷ xs) [] zs p q = inr (x ∷ xs, refl)
one_begins (x ∷ xs) (y ∷ ys) [] p q = let none : [] ≡ x ∷ (xs ++ p.0) = p.1 in absurd (cc)
one_begins (x ∷ xs) (y ∷ ys) (z ∷ zs) p q =
    let first : z ∷ zs ≡ x ∷ (xs ++ p.0) = p.1 in
    let second : z ∷ zs ≡ y ∷ (ys ++ q.0) = q.1 in
    let same : x ≡ y = cc in
    let front : zs ≡ xs ++ p.0 = cc in
    let back : zs ≡ ys ++ q.0 = cc in
    elim (one_begins xs ys zs (p.0, front) (q.0, back)) [
      | inl is ↦ inl (is.0, ap (λ l. y ∷ l) is.1 ∙ ap (λ h. h ∷ (xs ++ is.0)) (sym same))
      | inr is ↦ inr (is.0, ap (λ l. x ∷ l) is.1 ∙ ap (λ h. h ∷ (ys ++ is.0)) same)
    ]

-- ---- members of what is read off a list

module _ {A B : Type 0} (f : A → Option B) (y : B) where
  abbrev pub IsReadFrom : List A → Type 0
  IsReadFrom xs = (x : A) × Contains xs x × (f x ≡ Some y)

  read_later : (x : A) (xs : List A) → IsReadFrom xs → IsReadFrom (x ∷ xs)
  read_later x xs found = (found.0, Contains_later x found.0 xs found.1, found.2)

  read_first : (x : A) (xs : List A) (o : Option B) → f x ≡ o → (Contains (filter_map f xs) y → IsReadFrom xs)
      → Contains (cons_option o (filter_map f xs)) y → IsReadFrom (x ∷ xs)
  read_first x xs None e later c = read_later x xs (later c)
  read_first x xs (Some z) e later c = elim (Contains_cases z y (filter_map f xs) c) [
    | inl same ↦ (x, Contains_here x xs, e ∙ ap (λ w. Some w) same)
    | inr there ↦ read_later x xs (later there)
  ]

  pub member_read : (xs : List A) → Contains (filter_map f xs) y → IsReadFrom xs
  member_read [] c = absurd (Contains_none y c)
  member_read (x ∷ xs) c = read_first x xs (f x) refl (member_read xs) c

  read_there : (x : A) (xs : List A) (o : Option B) → Contains (filter_map f xs) y → Contains (cons_option o (filter_map f xs)) y
  read_there x xs None c = c
  read_there x xs (Some z) c = Contains_later z y (filter_map f xs) c

  pub read_member : (xs : List A) (x : A) → Contains xs x → f x ≡ Some y → Contains (filter_map f xs) y
  read_member [] x c e = absurd (Contains_none x c)
  read_member (z ∷ xs) x c e = elim (Contains_cases z x xs c) [
    | inl same ↦ subst (λ o. Contains (cons_option o (filter_map f xs)) y) (sym (ap f same ∙ e)) (Contains_here y (filter_map f xs))
    | inr later ↦ read_there z xs (f z) (read_member xs x later e)
  ]

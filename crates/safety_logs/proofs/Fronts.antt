-- Lists that begin others: by one member more, and so many of them.
use Rattle.std.proofs.Common.{◌≡◌, ◌∙◌, ℕ, ◌+◌, ◌<◌, ◌≤◌, List, [], ◌∷◌, ◌++◌, length, take, drop, Some, append_assoc, refl, sym, ap, take-append-drop, arith}
use Rattle.std.specs.List.{slice_get}
use Rattle.std.proofs.lemmas.Option.{same_Some}
use Rattle.fix_ante.proofs.Entries.{slice_get_append_left, slice_get_append_right}
use Rattle.runs.specs.Marks.{IsPrefix}
use Rattle.safety_frame.proofs.Lists.{length_stays}

next_is : {A : Type 0} (rest : List A) (x : A) → slice_get rest 0 ≡ Some x → (more : List A) × (rest ≡ x ∷ more)
next_is [] x at = absurd (cc)
next_is (y ∷ rest) x at = (rest, ap (λ z. z ∷ rest) (same_Some y x at))

pub after_front : {A : Type 0} (xs rest : List A) → slice_get (xs ++ rest) (length xs) ≡ slice_get rest 0
after_front xs rest =
    let end : length xs ≡ length xs + 0 = omega arith in
    ap (slice_get (xs ++ rest)) end ∙ slice_get_append_right xs rest (length xs) 0 refl

-- what stands at its end may be put there
pub begins_next : {A : Type 0} (xs ys : List A) (x : A) → IsPrefix xs ys → slice_get ys (length xs) ≡ Some x → IsPrefix (xs ++ x ∷ []) ys
begins_next xs ys x p at =
    let next = next_is p.0 x (sym (after_front xs p.0) ∙ (ap (λ l. slice_get l (length xs)) (sym p.1) ∙ at)) in
    (next.0, p.1 ∙ (ap (λ l. xs ++ l) next.1 ∙ sym (append_assoc xs (x ∷ []) next.0)))

pub front_of : {A : Type 0} (len : ℕ) (xs : List A) → IsPrefix (take len xs) xs
front_of len xs = (drop len xs, sym (take-append-drop len xs))

pub no_longer : {A : Type 0} (xs ys : List A) → IsPrefix xs ys → length xs ≤ length ys
no_longer xs ys p = length_stays xs ys (length xs) p (omega arith)

-- what the longer list has at a place of the beginning stands there
pub index_back : {A : Type 0} (xs ys : List A) (i : ℕ) (x : A) → IsPrefix xs ys → i < length xs → slice_get ys i ≡ Some x → slice_get xs i ≡ Some x
index_back xs ys i x p below at = sym (slice_get_append_left xs p.0 i below) ∙ (sym (ap (λ l. slice_get l i) p.1) ∙ at)

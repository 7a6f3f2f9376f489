-- Lists to which one more is added, and lists that have a first one.
use Rattle.std.proofs.Common.{◌≡◌, List, [], ◌∷◌, ◌++◌, drop, slice_get, Some, append_assoc, append-nil, sym, ap, subst}
use Rattle.runs.specs.Marks.{EachAfter}

-- what holds of each member given the earlier ones, and of one more given all, holds of each then
pub each_push : {A : Type 0} (P : List A → A → Type 0) (earlier xs : List A) (x : A) → EachAfter P earlier xs → P (earlier ++ xs) x
    → EachAfter P earlier (xs ++ x ∷ [])
each_push P earlier [] x each here = (subst (λ l. P l x) (append-nil earlier) here, tt)
each_push P earlier (y ∷ xs) x each here = (
  each.0,
  each_push P (earlier ++ y ∷ []) xs x each.1 (subst (λ l. P l x) (sym (append_assoc earlier (y ∷ []) xs)) here),
)

-- a list that has a first one is that and the rest
pub first_of : {A : Type 0} (xs : List A) (x : A) → slice_get xs 0 ≡ Some x → xs ≡ x ∷ drop 1 xs
first_of [] x e = absurd (cc)
first_of (y ∷ xs) x e = let same : y ≡ x = cc in ap (λ z. z ∷ xs) same

-- What holds of the items of two lists, place by place.
use Rattle.std.proofs.Common.{◌≡◌, List, [], ◌∷◌, ◌++◌, sym, subst}
use Rattle.std.specs.List.{AllZip}

pub push : {A B : Type 0} (R : A → B → Type 0) (xs : List A) (ys : List B) (x : A) (y : B) → AllZip R xs ys → R x y → AllZip R (xs ++ x ∷ []) (ys ++ y ∷ [])
push R [] [] x y all last = (last, tt)
push R [] (b ∷ ys) x y all last = absurd all
push R (a ∷ xs) [] x y all last = absurd all
push R (a ∷ xs) (b ∷ ys) x y all last = (all.0, push R xs ys x y all.1 last)

pub pushed : {A B : Type 0} (R : A → B → Type 0) (xs : List A) (ys : List B) (x : A) (y : B) (more : List B)
    → more ≡ ys ++ y ∷ [] → AllZip R xs ys → R x y → AllZip R (xs ++ x ∷ []) more
pushed R xs ys x y more is all last = subst (AllZip R (xs ++ x ∷ [])) (sym is) (push R xs ys x y all last)

-- what holds from the first list to the second, and from there to the third, leads from the first to the third
pub through : {A B C : Type 0} (R : A → B → Type 0) (S : B → C → Type 0) (T : A → C → Type 0) (leads : (x : A) (y : B) (z : C) → R x y → S y z → T x z)
    (xs : List A) (ys : List B) (zs : List C) → AllZip R xs ys → AllZip S ys zs → AllZip T xs zs
through R S T leads [] [] [] all on = tt
through R S T leads [] [] (z ∷ zs) all on = absurd on
through R S T leads [] (y ∷ ys) zs all on = absurd all
through R S T leads (x ∷ xs) [] zs all on = absurd all
through R S T leads (x ∷ xs) (y ∷ ys) [] all on = absurd on
through R S T leads (x ∷ xs) (y ∷ ys) (z ∷ zs) all on = (leads x y z all.0 on.0, through R S T leads xs ys zs all.1 on.1)

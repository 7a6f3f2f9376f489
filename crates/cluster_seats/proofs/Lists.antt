-- Lists that grow while another is used up, and what holds of each of a list.
use Rattle.std.proofs.Common.{◌≡◌, ◌+◌, List, [], ◌∷◌, ◌++◌, length, map, refl, sym, ap, ◌∙◌, append_assoc, append-nil, arith}
use Rattle.std.specs.List.{AllByRecursion}
use Rattle.std.proofs.lemmas.List.{map-append, length-append, length-map}

-- one more, of the first that is left
pub moved : {A X : Type 0} (f : A → X) (xs : List A) (x : A) (y : X) (rest whole : List X) → f x ≡ y → map f xs ++ y ∷ rest ≡ whole
    → map f (xs ++ x ∷ []) ++ rest ≡ whole
moved f xs x y rest whole same all =
    ap (λ l. l ++ rest) (map-append f xs (x ∷ [])) ∙ append_assoc (map f xs) (f x ∷ []) rest ∙ ap (λ z. map f xs ++ z ∷ rest) same ∙ all

-- one more of both
pub grown : {A B X : Type 0} (f : A → X) (g : B → X) (xs : List A) (ys : List B) (x : A) (y : B) → f x ≡ g y → map f xs ≡ map g ys
    → map f (xs ++ x ∷ []) ≡ map g (ys ++ y ∷ [])
grown f g xs ys x y same all =
    map-append f xs (x ∷ []) ∙ ap (λ z. map f xs ++ z ∷ []) same ∙ ap (λ l. l ++ g y ∷ []) all ∙ sym (map-append g ys (y ∷ []))

pub none_left : {X : Type 0} (xs : List X) → length xs ≡ 0 → xs ≡ []
none_left [] none = refl
none_left (x ∷ xs) none = absurd (omega (arith, none))

-- none is left once as many are there
pub all_used : {A X : Type 0} (f : A → X) (xs : List A) (rest whole : List X) → length xs ≡ length whole → map f xs ++ rest ≡ whole → map f xs ≡ whole
all_used f xs rest whole count all =
    let lengths : length xs + length rest ≡ length whole =
    ap (λ n. n + length rest) (sym (length-map xs f)) ∙ sym (length-append (map f xs) rest) ∙ ap length all in
    let none : length rest ≡ 0 = omega (arith, lengths, count) in
    sym (append-nil (map f xs)) ∙ ap (λ l. map f xs ++ l) (sym (none_left rest none)) ∙ all

pub same_length : {A B X : Type 0} (f : A → X) (g : B → X) (xs : List A) (ys : List B) → map f xs ≡ map g ys → length xs ≡ length ys
same_length f g xs ys same = sym (length-map xs f) ∙ ap length same ∙ length-map ys g

-- what holds of each image
pub of_images : {A B : Type 0} (f : A → B) (P : B → Type 0) (xs : List A) → AllByRecursion P (map f xs) → AllByRecursion (λ (x : A). P (f x)) xs
of_images f P [] all = tt
of_images f P (x ∷ xs) all = (all.0, of_images f P xs all.1)

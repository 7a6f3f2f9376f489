-- Lists of looks whose numbers rise.
use Rattle.std.proofs.Common.{◌≡◌, ℕ, zero, suc, ◌-◌, ◌≤◌, ◌<◌, nat_le, cond, List, [], ◌∷◌, ◌++◌, length, take}
use Rattle.std.proofs.Common.{drop, slice_get, slice_index_or, Option, Some, refl, ap, sym, subst, ◌∙◌, take-append-drop, arith}
use Rattle.std.proofs.lemmas.Bool.{le-leb, lt-leb}
use mathlib.Core.List.{IsPrefix}
use Rattle.view_cell.specs.declared.look.Look.{Look}
use Rattle.view_cell.specs.Looks.{IsRising, newest_of, last_number, last_of}
use Rattle.view_cell.proofs.Rising.{le_last, rising_prefix, rising_more}
use Rattle.cluster_users.specs.Noting.{up_to, RiseStrictly}

last_at : (x : Look) (xs : List Look) → slice_get (x ∷ xs) (length xs) ≡ Some (last_of x xs)
last_at x [] = refl
last_at x (y ∷ ys) = last_at y ys

last_is_newest : (xs : List Look) → slice_get xs (length xs - 1) ≡ newest_of xs
last_is_newest [] = refl
last_is_newest (x ∷ xs) = let e : suc (length xs) - 1 ≡ length xs = omega arith in ap (λ k. slice_get (x ∷ xs) k) e ∙ last_at x xs

-- the last number of the first looks is that of the last of them
pub take_last : (n : ℕ) (xs : List Look) (k : ℕ) (d : Look) → k < length xs → last_number n (take (suc k) xs) ≡ (slice_index_or xs k d).ops
take_last n [] k d lt = absurd (omega arith)
take_last n (x ∷ xs) zero d lt = refl
take_last n (x ∷ xs) (suc k) d lt = take_last x.ops xs k d (omega arith)

-- a look above the number makes no difference to those up to it
pub up_to_less : (number : ℕ) (xs : List Look) (k : ℕ) (d : Look) → k < length xs → number < (slice_index_or xs k d).ops
    → up_to number (take k xs) ≡ up_to number (take (suc k) xs)
up_to_less number [] k d lt above = absurd (omega arith)
up_to_less number (x ∷ xs) zero d lt above = ap (λ b. cond b (x ∷ []) []) (sym (lt-leb x.ops number above))
up_to_less number (x ∷ xs) (suc k) d lt above = ap (λ l. cond (nat_le x.ops number) (x ∷ l) l) (up_to_less number xs k d (omega arith) above)

-- all are up to a number that the last one is up to
pub up_to_whole : (number n : ℕ) (xs : List Look) → IsRising n xs → last_number n xs ≤ number → up_to number xs ≡ xs
up_to_whole number n [] rising le = refl
up_to_whole number n (x ∷ xs) rising le =
    let up = le_last x.ops xs rising.1 in
    ap (λ b. cond b (x ∷ up_to number xs) (up_to number xs)) (le-leb x.ops number (omega arith)) ∙ ap (λ l. x ∷ l) (up_to_whole number x.ops xs rising.1 le)

-- the same where the first has no bound
strict_whole : (number : ℕ) (xs : List Look) → RiseStrictly xs → last_number 0 xs ≤ number → up_to number xs ≡ xs
strict_whole number [] rising le = refl
strict_whole number (x ∷ xs) rising le =
    let up = le_last x.ops xs rising in
    ap (λ b. cond b (x ∷ up_to number xs) (up_to number xs)) (le-leb x.ops number (omega arith)) ∙ ap (λ l. x ∷ l) (up_to_whole number x.ops xs rising le)

pub strict_prefix : (xs zs : List Look) → IsPrefix xs zs → RiseStrictly zs → RiseStrictly xs
strict_prefix [] zs p r = tt
strict_prefix (x ∷ xs) [] p r = absurd (cc (p.1))
strict_prefix (x ∷ xs) (z ∷ zs) p r =
    let heads : z ≡ x = cc (p.1) in rising_prefix x.ops xs zs (p.0, cc (p.1)) (subst (λ (u : Look). IsRising u.ops zs) heads r)

pub take_strict : (k : ℕ) (xs : List Look) → RiseStrictly xs → RiseStrictly (take k xs)
take_strict k xs r = strict_prefix (take k xs) xs (drop k xs, take-append-drop k xs) r

-- where the last of the first looks is up to the number, and all others are above it
pub counted : (number left : ℕ) (xs : List Look) → RiseStrictly xs → up_to number (take left xs) ≡ up_to number xs → last_number 0 (take left xs) ≤ number
    → take left xs ≡ up_to number xs
counted number left xs rising same le = sym (strict_whole number (take left xs) (take_strict left xs rising) le) ∙ same

-- one look more, with a number above the last
pub strict_more : (xs : List Look) (x : Look) → RiseStrictly xs → last_number 0 xs < x.ops → RiseStrictly (xs ++ x ∷ [])
strict_more [] x r up = tt
strict_more (y ∷ ys) x r up = rising_more y.ops ys x r up

-- where the last of the first looks is up to a number, so is their last number
pub last_up_to : (number left : ℕ) (xs : List Look) (d : Look) → 0 < left → left ≤ length xs → (slice_index_or xs (left - 1) d).ops ≤ number
    → last_number 0 (take left xs) ≤ number
last_up_to number left xs d some fits le =
    let e : suc (left - 1) ≡ left = omega (arith, some) in
    let at = take_last 0 xs (left - 1) d (omega (arith, some, fits)) in
    subst (λ k. last_number 0 (take k xs) ≤ number) e (omega (arith, at, le))

pub newest_lies_last : (xs ys : List Look) (o : Option Look) → xs ≡ ys → o ≡ slice_get xs (length xs - 1) → o ≡ newest_of ys
newest_lies_last xs ys o same at = at ∙ last_is_newest xs ∙ ap newest_of same

-- The first word of a line, and the words after it.
use Rattle.std.proofs.Common.{◌≡◌, ℕ, ◌<◌, ◌==◌, Bool, true, false, not, List, [], ◌∷◌, length, take, drop, refl, sym, ap, subst, ◌∙◌, arith, one-add, length-take, length-drop}
use Rattle.std.specs.List.{prefix_len, filter, slice_split, onto_first}
use Rattle.std.proofs.lemmas.List.Sums.{prefix_len-le-length}
use Rattle.script_text.specs.Words.{has_bytes, words_of, after_word}

abbrev pub is_blank : ℕ → Bool
is_blank b = b == 32

abbrev pub is_letter : ℕ → Bool
is_letter b = not (b == 32)

abbrev pub spaces : List ℕ → ℕ
spaces line = prefix_len is_blank line

abbrev pub letters : List ℕ → ℕ
letters line = prefix_len is_letter line

abbrev parts : List ℕ → List (List ℕ)
parts line = slice_split is_blank line

empty : (xs : List ℕ) → length xs ≡ 0 → xs ≡ []
empty [] e = refl
empty (x ∷ xs) e = absurd (omega arith)

trim : (c : ℕ) (cs : List ℕ) (b : Bool) → is_blank c ≡ b → filter has_bytes (parts cs) ≡ filter has_bytes (parts (drop (spaces cs) cs))
    → filter has_bytes (parts (c ∷ cs)) ≡ filter has_bytes (parts (drop (spaces (c ∷ cs)) (c ∷ cs)))
trim c cs true e h = rw (e, one-add) h
trim c cs false e h = rw e (rw e refl)

-- spaces in front make no word
words_trim : (line : List ℕ) → filter has_bytes (parts line) ≡ filter has_bytes (parts (drop (spaces line) line))
words_trim [] = refl
words_trim (c ∷ cs) = trim c cs (is_blank c) refl (words_trim cs)

abbrev IsBegun : List ℕ → Type 0
IsBegun [] = Unit {0}
IsBegun (c ∷ cs) = is_blank c ≡ false

begin : (c : ℕ) (cs : List ℕ) (b : Bool) → is_blank c ≡ b → IsBegun (drop (spaces cs) cs) → IsBegun (drop (spaces (c ∷ cs)) (c ∷ cs))
begin c cs true e h = rw (e, one-add) h
begin c cs false e h = rw e e

-- what follows the spaces in front does not begin with one
begun : (line : List ℕ) → IsBegun (drop (spaces line) line)
begun [] = tt
begun (c ∷ cs) = begin c cs (is_blank c) refl (begun cs)

-- the part in front, and the parts after it
abbrev Cut : List ℕ → Type 0
Cut line = (more : List (List ℕ)) × (parts line ≡ take (letters line) line ∷ more) × (parts (drop (letters line) line) ≡ [] ∷ more)

cut_on : (c : ℕ) (cs : List ℕ) (b : Bool) → is_blank c ≡ b → Cut cs → Cut (c ∷ cs)
cut_on c cs true e h = (parts cs, rw e refl, rw e (rw e refl))
cut_on c cs false e h = (h.0, rw (e, one-add) (ap (onto_first c) h.1), rw (e, one-add) h.2)

cut : (line : List ℕ) → Cut line
cut [] = ([], refl, refl)
cut (c ∷ cs) = cut_on c cs (is_blank c) refl (cut cs)

some_part : (part : List ℕ) (more : List (List ℕ)) → 0 < length part → filter has_bytes (part ∷ more) ≡ part ∷ filter has_bytes more
some_part [] more h = absurd (omega arith)
some_part (c ∷ cs) more h = refl

letters_some : (line : List ℕ) → IsBegun line → 0 < length line → 0 < letters line
letters_some [] b h = absurd (omega arith)
letters_some (c ∷ cs) b h = rw b (omega arith)

first_word : (line : List ℕ) → 0 < letters line → filter has_bytes (parts line) ≡ take (letters line) line ∷ filter has_bytes (parts (drop (letters line) line))
first_word line h =
    let c = cut line in
    let some : 0 < length (take (letters line) line) = omega (arith, length-take (letters line) line, prefix_len-le-length is_letter line) in
    ap (filter has_bytes) c.1 ∙ some_part (take (letters line) line) c.0 some ∙ ap (λ more. take (letters line) line ∷ more) (sym (ap (filter has_bytes) c.2))

-- where nothing follows the spaces there is no word
pub words_none : (line left : List ℕ) (n : ℕ) → n ≡ spaces line → left ≡ drop n line → length left ≡ 0 → words_of line ≡ []
unfolding words_of
words_none line left n n_is is none =
    let left_is : left ≡ drop (spaces line) line = is ∙ ap (λ k. drop k line) n_is in
    words_trim line ∙ ap (λ rest. filter has_bytes (parts rest)) (sym left_is ∙ empty left none)

-- and else a word, with what follows it
pub words_first : (line left : List ℕ) (n m : ℕ) → n ≡ spaces line → left ≡ drop n line → 0 < length left → m ≡ letters left
    → (words_of line ≡ take m left ∷ words_of (drop m left)) × (drop m left ≡ after_word line) × (length (drop m left) < length line)
unfolding words_of after_word
words_first line left n m n_is is some m_is =
    let left_is : left ≡ drop (spaces line) line = is ∙ ap (λ k. drop k line) n_is in
    let begun_is : IsBegun left = subst IsBegun (sym left_is) (begun line) in
    let here : 0 < letters left = letters_some left begun_is some in
    let trimmed : filter has_bytes (parts line) ≡ filter has_bytes (parts left) = words_trim line ∙ ap (λ rest. filter has_bytes (parts rest)) (sym left_is) in
    (rw m_is (trimmed ∙ first_word left here), rw (m_is, left_is) refl, omega (arith, length-drop m left, ap length is, length-drop n line))

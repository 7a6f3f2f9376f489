-- The words of a text, found by its first space.
use Rattle.std.proofs.Common.{◌≡◌, ℕ, ◌+◌, ◌-◌, ◌<◌, ◌≤◌, ◌==◌, true, false, cond, not, List, [], ◌∷◌, length, take, drop, Some, None, refl, sym, ap, ◌∙◌, arith}
use Rattle.std.specs.List.{position, position_or_len}
use Rattle.std.proofs.lemmas.Grind.{common_steps}
use Rattle.std.proofs.lemmas.Bool.Decides.{nat_tests}
use Rattle.app_law.specs.Words.{words, put_first}

-- where a text's first space is, or the text's length
abbrev space_of : List ℕ → ℕ
space_of text = position_or_len (λ c. c == 32) text

put_first_at : (c n : ℕ) (cs : List ℕ) (ws : List (List ℕ)) → ws ≡ take n cs ∷ words (drop (n + 1) cs)
    → put_first c ws ≡ take (1 + n) (c ∷ cs) ∷ words (drop (1 + n + 1) (c ∷ cs))
put_first_at c n cs ws e = ap (put_first c) e ∙ grind (arith, common_steps)

-- the first word ends at the first space
words_at_space : (text : List ℕ) → space_of text < length text → words text ≡ take (space_of text) text ∷ words (drop (space_of text + 1) text)
words_at_space [] h = absurd (omega arith)
words_at_space (c ∷ cs) h =
    elim (c == 32) as (λ b. cond (not b) (1 + space_of cs) 0 < length (c ∷ cs) → cond b ([] ∷ words cs) (put_first c (words cs)) ≡ take (cond (not b) (1 + space_of cs) 0) (c ∷ cs) ∷ words (drop (cond (not b) (1 + space_of cs) 0 + 1) (c ∷ cs))) [
      | true ↦ λ h. refl
      | false ↦ λ h. put_first_at c (space_of cs) cs (words cs) (words_at_space cs (omega arith))
    ] h

-- a text with no space is one word
words_no_space : (text : List ℕ) → length text ≤ space_of text → words text ≡ text ∷ []
words_no_space [] h = refl
words_no_space (c ∷ cs) h =
    elim (c == 32) as (λ b. length (c ∷ cs) ≤ cond (not b) (1 + space_of cs) 0 → cond b ([] ∷ words cs) (put_first c (words cs)) ≡ (c ∷ cs) ∷ []) [
      | true ↦ λ h. absurd (omega arith)
      | false ↦ λ h. ap (put_first c) (words_no_space cs (omega arith))
    ] h

-- the words of a text whose first space is there
pub words_space : (text : List ℕ) (at : ℕ) → position (λ c. c == 32) text ≡ Some at
    → words text ≡ take at text ∷ words (take (length text - (at + 1)) (drop (at + 1) text))
words_space text at e =
    let here : (space_of text ≡ at) × (space_of text < length text) = grind (arith, nat_tests) in
    let over : take (length text - (at + 1)) (drop (at + 1) text) ≡ drop (at + 1) text = grind (arith, common_steps) in
    rw over (rw (sym here.0) (words_at_space text here.1))

-- and of one with no space
pub words_whole : (text : List ℕ) → position (λ c. c == 32) text ≡ None → words text ≡ text ∷ []
words_whole text e = words_no_space text (grind (arith, nat_tests))

put_first_some : (c : ℕ) (ws : List (List ℕ)) → (w : List ℕ) × (rest : List (List ℕ)) × (put_first c ws ≡ w ∷ rest)
put_first_some c [] = (c ∷ [], [], refl)
put_first_some c (w ∷ ws) = (c ∷ w, ws, refl)

-- a text has at least one word
pub words_some : (text : List ℕ) → (w : List ℕ) × (rest : List (List ℕ)) × (words text ≡ w ∷ rest)
words_some [] = ([], [], refl)
words_some (c ∷ cs) =
    elim (c == 32) as (λ b. (w : List ℕ) × (rest : List (List ℕ)) × (cond b ([] ∷ words cs) (put_first c (words cs)) ≡ w ∷ rest)) [
      | true ↦ ([], words cs, refl)
      | false ↦ put_first_some c (words cs)
    ]

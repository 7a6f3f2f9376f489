-- A `submit` line, its bytes and its words.
use Rattle.std.proofs.Common.{◌≡◌, ℕ, ◌+◌, ◌<◌, Bool, true, false, List, [], ◌∷◌, ◌++◌, length, take, drop, codes, refl, sym, ap, subst, ◌∙◌, inl, inr, arith, one-add}
use Rattle.std.specs.List.{AllByRecursion}
use Rattle.std.specs.Str.{all_ascii_digits}
use Rattle.std.specs.Char.{is_ascii_digit}
use Rattle.std.proofs.lemmas.Bool.Decides.{nat_tests}
use Rattle.std.proofs.lemmas.List.{take-append-drop}
use Rattle.script_text.specs.Words.{words_of, after_word, is_decimal, SpellsDecimal}
use Rattle.script_text.specs.Spelled.{AreSpaces, SpellsBody, SpellsSubmit}
use Rattle.script_text.specs.Judged.{body_of}
use Rattle.script_text.proofs.RowLemmas.{and_left, and_right}
use Rattle.script_text.proofs.WordLemmas.{is_blank, spaces, letters, words_first, words_none}

-- ---- a line put together

abbrev pub AreLetters : List ℕ → Type 0
AreLetters = AllByRecursion (λ b. is_blank b ≡ false)

-- what follows a word: nothing, or a space and more
abbrev pub IsEnded : List ℕ → Type 0
IsEnded [] = Unit {0}
IsEnded (b ∷ bs) = b ≡ 32

blank_is : (b : ℕ) → b ≡ 32 → is_blank b ≡ true
blank_is b e = grind (arith, nat_tests)

spaces_then : (before x : List ℕ) → AreSpaces before → spaces x ≡ 0 → spaces (before ++ x) ≡ length before
spaces_then [] x s e = e
spaces_then (b ∷ before) x s e = rw (blank_is b s.0, spaces_then before x s.1 e) (one-add (length before))

ended : (rest : List ℕ) → IsEnded rest → letters rest ≡ 0
ended [] h = refl
ended (b ∷ bs) h = rw (blank_is b h) refl

letters_then : (word rest : List ℕ) → AreLetters word → IsEnded rest → letters (word ++ rest) ≡ length word
letters_then [] rest w h = ended rest h
letters_then (c ∷ cs) rest w h = rw (w.0, letters_then cs rest w.1 h) (one-add (length cs))

drop_length : (xs ys : List ℕ) → drop (length xs) (xs ++ ys) ≡ ys
drop_length [] ys = refl
drop_length (x ∷ xs) ys = drop_length xs ys

take_length : (xs ys : List ℕ) → take (length xs) (xs ++ ys) ≡ xs
take_length [] ys = refl
take_length (x ∷ xs) ys = ap (λ (t : List ℕ). x ∷ t) (take_length xs ys)

starts : (c : ℕ) (cs rest : List ℕ) → is_blank c ≡ false → spaces ((c ∷ cs) ++ rest) ≡ 0
starts c cs rest e = rw e refl

-- spaces, a word, and what follows it
pub words_put : (before : List ℕ) (c : ℕ) (cs rest : List ℕ) → AreSpaces before → AreLetters (c ∷ cs) → IsEnded rest
    → (words_of (before ++ ((c ∷ cs) ++ rest)) ≡ (c ∷ cs) ∷ words_of rest) × (after_word (before ++ ((c ∷ cs) ++ rest)) ≡ rest)
words_put before c cs rest s w h =
    let line = before ++ ((c ∷ cs) ++ rest) in
    let n_is : length before ≡ spaces line = sym (spaces_then before ((c ∷ cs) ++ rest) s (starts c cs rest w.0)) in
    let left_is : (c ∷ cs) ++ rest ≡ drop (length before) line = sym (drop_length before ((c ∷ cs) ++ rest)) in
    let some : 0 < length ((c ∷ cs) ++ rest) = omega arith in
    let m_is : length (c ∷ cs) ≡ letters ((c ∷ cs) ++ rest) = sym (letters_then (c ∷ cs) rest w h) in
    let f = words_first line ((c ∷ cs) ++ rest) (length before) (length (c ∷ cs)) n_is left_is some m_is in
    let front : take (length (c ∷ cs)) ((c ∷ cs) ++ rest) ≡ c ∷ cs = take_length (c ∷ cs) rest in
    let back : drop (length (c ∷ cs)) ((c ∷ cs) ++ rest) ≡ rest = drop_length (c ∷ cs) rest in
    (f.0 ∙ (ap (λ (t : List ℕ). t ∷ words_of (drop (length (c ∷ cs)) ((c ∷ cs) ++ rest))) front ∙ ap (λ (t : List ℕ). (c ∷ cs) ∷ words_of t) back), sym f.1 ∙ back)

-- ---- a line taken apart

blank_byte : (b : ℕ) → is_blank b ≡ true → b ≡ 32
blank_byte b e = grind (arith, nat_tests)

taken_on : (c : ℕ) (cs : List ℕ) (b : Bool) → is_blank c ≡ b → AreSpaces (take (spaces cs) cs) → AreSpaces (take (spaces (c ∷ cs)) (c ∷ cs))
taken_on c cs true e h = rw (e, one-add) (blank_byte c e, h)
taken_on c cs false e h = rw e tt

end_on : (c : ℕ) (cs : List ℕ) (b : Bool) → is_blank c ≡ b → IsEnded (drop (letters cs) cs) → IsEnded (drop (letters (c ∷ cs)) (c ∷ cs))
end_on c cs true e h = rw e (blank_byte c e)
end_on c cs false e h = rw (e, one-add) h

spaces_taken : (line : List ℕ) → AreSpaces (take (spaces line) line)
spaces_taken [] = tt
spaces_taken (c ∷ cs) = taken_on c cs (is_blank c) refl (spaces_taken cs)

letters_end : (line : List ℕ) → IsEnded (drop (letters line) line)
letters_end [] = tt
letters_end (c ∷ cs) = end_on c cs (is_blank c) refl (letters_end cs)

-- a word, what stands before it, and what follows it
pub record HasWord (line word : List ℕ) (words : List (List ℕ)) : Type 0 where
  pub line_is : line ≡ take (spaces line) line ++ (word ++ after_word line)
  pub blank : AreSpaces (take (spaces line) line)
  pub ended : IsEnded (after_word line)
  pub more : words_of (after_word line) ≡ words

word_there : (line word : List ℕ) (words : List (List ℕ)) → 0 < length (drop (spaces line) line) → words_of line ≡ word ∷ words → HasWord line word words
word_there line word words some e =
    let left = drop (spaces line) line in
    let f = words_first line left (spaces line) (letters left) refl refl some refl in
    let both : take (letters left) left ∷ words_of (drop (letters left) left) ≡ word ∷ words = sym f.0 ∙ e in
    let word_is : take (letters left) left ≡ word = cc in
    let words_are : words_of (drop (letters left) left) ≡ words = cc in
    let P : List ℕ → Type 0 = λ t. IsEnded t in
    record {
      line_is = sym (take-append-drop (spaces line) line) ∙ ap (λ (t : List ℕ). take (spaces line) line ++ t) (sym (take-append-drop (letters left) left) ∙ (ap (λ (t : List ℕ). t ++ drop (letters left) left) word_is ∙ ap (λ (t : List ℕ). word ++ t) f.1));
      blank = spaces_taken line;
      ended = subst P f.1 (letters_end left);
      more = ap words_of (sym f.1) ∙ words_are;
    }

word_or_none : (line word : List ℕ) (words : List (List ℕ)) (left : List ℕ) → left ≡ drop (spaces line) line → words_of line ≡ word ∷ words
    → HasWord line word words
word_or_none line word words [] left_is e = let none : words_of line ≡ [] = words_none line [] (spaces line) refl left_is refl in absurd cc
word_or_none line word words (c ∷ cs) left_is e = word_there line word words (omega (arith, ap length left_is)) e

pub word_taken : (line word : List ℕ) (words : List (List ℕ)) → words_of line ≡ word ∷ words → HasWord line word words
word_taken line word words e = word_or_none line word words (drop (spaces line) line) refl e

-- ---- submissions

digit_letter : (c : ℕ) → is_ascii_digit c ≡ true → is_blank c ≡ false
digit_letter c e = grind (arith, nat_tests)

pub digits_letters : (xs : List ℕ) → all_ascii_digits xs ≡ true → AreLetters xs
digits_letters [] e = tt
digits_letters (c ∷ cs) e = (digit_letter c (and_left (is_ascii_digit c) (all_ascii_digits cs) e), digits_letters cs (and_right (is_ascii_digit c) (all_ascii_digits cs) e))

decimal_letters : (word : List ℕ) → is_decimal word ≡ true → AreLetters word
unfolding is_decimal
decimal_letters word e = digits_letters word (and_right _ (all_ascii_digits word) (and_right _ _ e))

decimal_some : is_decimal [] ≡ false
unfolding is_decimal
decimal_some = refl

body_ended : (rest body : List ℕ) → SpellsBody rest body → IsEnded rest
body_ended rest body (inl e) = let P : List ℕ → Type 0 = λ t. IsEnded t in subst P (sym e) refl
body_ended rest body (inr e) = let P : List ℕ → Type 0 = λ t. IsEnded t in subst P (sym e.0) tt

body_after : (rest body : List ℕ) → SpellsBody rest body → drop 1 rest ≡ body
body_after rest body (inl e) = ap (drop 1) e
body_after rest body (inr e) = ap (drop 1) e.0 ∙ sym e.1

spaces_end : (between x : List ℕ) → AreSpaces between → 0 < length between → IsEnded (between ++ x)
spaces_end [] x s some = absurd (omega arith)
spaces_end (b ∷ bs) x s some = s.0

second_word : (between word rest : List ℕ) → AreSpaces between → is_decimal word ≡ true → IsEnded rest
    → (words_of (between ++ (word ++ rest)) ≡ word ∷ words_of rest) × (after_word (between ++ (word ++ rest)) ≡ rest)
second_word between [] rest s d h = let none = decimal_some in absurd cc
second_word between (c ∷ cs) rest s d h = words_put between c cs rest s (decimal_letters (c ∷ cs) d) h

-- the words of a submission, and its body
pub record IsSubmission (line : List ℕ) (client : ℕ) (body : List ℕ) : Type 0 where
  pub word : List ℕ
  pub words : List (List ℕ)
  pub words_are : words_of line ≡ codes "submit" ∷ word ∷ words
  pub client_is : SpellsDecimal word client
  pub body_is : body_of line ≡ body

pub submission_back : (line : List ℕ) (client : ℕ) (body : List ℕ) → SpellsSubmit line client body → IsSubmission line client body
submission_back line client body s =
    let tail = s.between ++ (s.word ++ s.rest) in
    let first = words_put s.before 115 (117 ∷ 98 ∷ 109 ∷ 105 ∷ 116 ∷ []) tail s.spaces_before (refl, (refl, (refl, (refl, (refl, (refl, tt)))))) (spaces_end s.between (s.word ++ s.rest) s.spaces_between s.some_space) in
    let second = second_word s.between s.word s.rest s.spaces_between s.client_is.0 (body_ended s.rest body s.body_is) in
    let after : after_word line ≡ tail = ap after_word s.line_is ∙ first.1 in
    record {
      word = s.word;
      words = words_of s.rest;
      words_are = ap words_of s.line_is ∙ (first.0 ∙ ap (λ (ws : List (List ℕ)). codes "submit" ∷ ws) second.0);
      client_is = s.client_is;
      body_is = ap (λ (t : List ℕ). drop 1 (after_word t)) after ∙ (ap (drop 1) second.1 ∙ body_after s.rest body s.body_is);
    }

body_of_rest : (rest : List ℕ) → IsEnded rest → SpellsBody rest (drop 1 rest)
body_of_rest [] h = inr (refl, refl)
body_of_rest (b ∷ bs) h = inl (ap (λ (x : ℕ). x ∷ bs) h)

some_blank : (rest word : List ℕ) (words : List (List ℕ)) → IsEnded rest → words_of rest ≡ word ∷ words → 0 < length (take (spaces rest) rest)
some_blank [] word words h e = let none : words_of [] ≡ [] = words_none [] [] 0 refl refl refl in absurd cc
some_blank (b ∷ bs) word words h e =
    let one : spaces (b ∷ bs) ≡ 1 + spaces bs = rw (blank_is b h) refl in
    rw (one, one-add) (omega arith)

pub submit_ok : (line word : List ℕ) (words : List (List ℕ)) (client : ℕ) → words_of line ≡ codes "submit" ∷ word ∷ words → SpellsDecimal word client
    → SpellsSubmit line client (body_of line)
submit_ok line word words client e s =
    let first = word_taken line (codes "submit") (word ∷ words) e in
    let rest = after_word line in
    let second = word_taken rest word words first.more in
    record {
      before = take (spaces line) line;
      between = take (spaces rest) rest;
      word = word;
      rest = after_word rest;
      line_is = first.line_is ∙ ap (λ (t : List ℕ). take (spaces line) line ++ (codes "submit" ++ t)) second.line_is;
      spaces_before = first.blank;
      spaces_between = second.blank;
      some_space = some_blank rest word words first.ended first.more;
      client_is = s;
      body_is = body_of_rest (after_word rest) second.ended;
    }

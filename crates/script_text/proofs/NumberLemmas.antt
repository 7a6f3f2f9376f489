-- Words, numbers and rows: what is judged is what they spell, both ways.
use Rattle.std.proofs.Common.{◌≡◌, ℕ, ◌<◌, ◌≤◌, Bool, true, false, not, nat_lt, IsTrue, List, [], ◌∷◌, Ok, Err, refl, sym, ap, subst, ◌∙◌, inl, inr, arith}
use Rattle.std.specs.List.{AllZip}
use Rattle.std.proofs.lemmas.Bool.Decides.{nat_tests}
use Rattle.std.proofs.lemmas.Slice.Eq.{bytes_eq-Decides}
use Rattle.record_codec.specs.Reading.{◌>>=◌}
use Rattle.record_codec.proofs.Reading.{bind_ok, chosen, ok_is}
use Rattle.script_text.specs.Names.{ScriptKind}
use Rattle.script_text.specs.Names.kinds
use Rattle.script_text.specs.Words.{is_printable, words_of, is_word, is_decimal, value_of, SpellsDecimal}
use Rattle.script_text.specs.Spelled.{SpellsNumber}
use Rattle.script_text.specs.Judged.{Judged, each, from_to, number_where, number_below, first_of, only_of, both_of, after_due, due_in}

-- ---- words

pub only_of_ok : (words : List (List ℕ)) (word : List ℕ) → only_of words ≡ Ok word → words ≡ word ∷ []
only_of_ok [] word e = absurd cc
only_of_ok (w ∷ []) word e = ap (λ (x : List ℕ). x ∷ []) (ok_is ScriptKind w word e)
only_of_ok (w ∷ v ∷ ws) word e = absurd cc

pub first_of_ok : (words : List (List ℕ)) (p : List ℕ × List (List ℕ)) → first_of words ≡ Ok p → words ≡ p.0 ∷ p.1
first_of_ok [] p e = absurd cc
first_of_ok (w ∷ ws) p e = ap (λ (q : List ℕ × List (List ℕ)). q.0 ∷ q.1) (ok_is ScriptKind (w, ws) p e)

pub both_of_ok : (words : List (List ℕ)) (p : List ℕ × List ℕ) → both_of words ≡ Ok p → words ≡ p.0 ∷ p.1 ∷ []
both_of_ok words p e =
    let a = bind_ok (first_of words) (λ first. only_of first.1 >>= λ second. Ok (first.0, second)) p e in
    let b = bind_ok (only_of a.0.1) (λ second. Ok (a.0.0, second)) p a.2 in
    let p_is : (a.0.0, b.0) ≡ p = ok_is ScriptKind (a.0.0, b.0) p b.2 in
    first_of_ok words a.0 a.1 ∙ (ap (λ (rest : List (List ℕ)). a.0.0 ∷ rest) (only_of_ok a.0.1 b.0 b.1) ∙ ap (λ (q : List ℕ × List ℕ). q.0 ∷ q.1 ∷ []) p_is)

pub is_word_same : (due word : List ℕ) → is_word due word ≡ true → word ≡ due
is_word_same due word e = (bytes_eq-Decides word due).0 e

pub is_word_itself : (word : List ℕ) → is_word word word ≡ true
is_word_itself word = (bytes_eq-Decides word word).1 refl

after_due_ok : (due : List ℕ) (words rest : List (List ℕ)) → after_due due words ≡ Ok rest → words ≡ due ∷ rest
after_due_ok due [] rest e = absurd cc
after_due_ok due (word ∷ words) rest e =
    elim (chosen (is_word due word) (Ok words) (Err kinds.Header) (Ok rest) e) [
      | inl h ↦ ap (λ (w : List ℕ). w ∷ words) (is_word_same due word h.0) ∙ ap (λ (ws : List (List ℕ)). due ∷ ws) (ok_is ScriptKind words rest h.1)
      | inr h ↦ absurd (let bad = h.1 in cc)
    ]

pub due_in_ok : (due line : List ℕ) (rest : List (List ℕ)) → due_in due line ≡ Ok rest → IsTrue (is_printable line) × (words_of line ≡ due ∷ rest)
unfolding due_in
due_in_ok due line rest e =
    elim (chosen (not (is_printable line)) (Err kinds.Byte) (after_due due (words_of line)) (Ok rest) e) [
      | inl h ↦ absurd (let bad = h.1 in cc)
      | inr h ↦ (grind (arith, nat_tests, h.0), after_due_ok due (words_of line) rest h.1)
    ]

pub due_in_back : (due line : List ℕ) (rest : List (List ℕ)) → IsTrue (is_printable line) → words_of line ≡ due ∷ rest → due_in due line ≡ Ok rest
unfolding due_in
due_in_back due line rest p words = rw (p, words, is_word_itself due) refl

-- ---- numbers

number_ok : (within : ℕ → Bool) (word : List ℕ) (n : ℕ) (a b : Bool) → is_decimal word ≡ a → within (value_of word) ≡ b → number_where within word ≡ Ok n
    → SpellsDecimal word n × IsTrue (within n)
unfolding number_where
number_ok within word n false b d w e = let bad = rw d at e in absurd cc
number_ok within word n true false d w e = let bad = rw (d, w) at e in absurd cc
number_ok within word n true true d w e =
    let n_is : value_of word ≡ n = ok_is ScriptKind (value_of word) n (rw (d, w) at e) in
    ((d, sym n_is), subst (λ (k : ℕ). within k ≡ true) n_is w)

pub number_where_ok : (within : ℕ → Bool) (word : List ℕ) (n : ℕ) → number_where within word ≡ Ok n → SpellsDecimal word n × IsTrue (within n)
number_where_ok within word n e = number_ok within word n (is_decimal word) (within (value_of word)) refl refl e

pub number_where_back : (within : ℕ → Bool) (word : List ℕ) (n : ℕ) → SpellsDecimal word n → IsTrue (within n) → number_where within word ≡ Ok n
unfolding number_where
number_where_back within word n s w =
    let here : within (value_of word) ≡ true = subst (λ (k : ℕ). within k ≡ true) s.1 w in
    rw (s.0, here) (ap Ok (sym s.1))

pub number_below_ok : (limit : ℕ) (word : List ℕ) (n : ℕ) → number_below limit word ≡ Ok n → SpellsDecimal word n × (n < limit)
unfolding number_below
number_below_ok limit word n e =
    let s = number_where_ok (λ n. nat_lt n limit) word n e in (s.0, grind (arith, nat_tests, s.1))

pub number_below_back : (limit : ℕ) (word : List ℕ) (n : ℕ) → SpellsDecimal word n → n < limit → number_below limit word ≡ Ok n
unfolding number_below
number_below_back limit word n s h = number_where_back (λ n. nat_lt n limit) word n s (grind (arith, nat_tests))

pub from_to_is : (least most n : ℕ) → IsTrue (from_to least most n) → (least ≤ n) × (n ≤ most)
from_to_is least most n e = (grind (arith, nat_tests), grind (arith, nat_tests))

pub from_to_true : (least most n : ℕ) → least ≤ n → n ≤ most → IsTrue (from_to least most n)
from_to_true least most n low high = grind (arith, nat_tests)

-- a line of the due word and a number
abbrev pub due_number : List ℕ → (ℕ → Bool) → List ℕ → Judged ℕ
due_number due within line = due_in due line >>= λ words. only_of words >>= λ word. number_where within word

pub due_number_ok : (due : List ℕ) (within : ℕ → Bool) (line : List ℕ) (n : ℕ) → due_number due within line ≡ Ok n
    → IsTrue (is_printable line) × SpellsNumber due (words_of line) n × IsTrue (within n)
due_number_ok due within line n e =
    let a = bind_ok (due_in due line) (λ words. only_of words >>= λ word. number_where within word) n e in
    let b = bind_ok (only_of a.0) (λ word. number_where within word) n a.2 in
    let d = due_in_ok due line a.0 a.1 in
    let s = number_where_ok within b.0 n b.2 in
    (d.0, (b.0, d.1 ∙ ap (λ (ws : List (List ℕ)). due ∷ ws) (only_of_ok a.0 b.0 b.1), s.0), s.1)

pub due_number_back : (due : List ℕ) (within : ℕ → Bool) (line : List ℕ) (n : ℕ) → IsTrue (is_printable line) → SpellsNumber due (words_of line) n
    → IsTrue (within n) → due_number due within line ≡ Ok n
due_number_back due within line n p s w = rw (due_in_back due line (s.0 ∷ []) p s.1) (number_where_back within s.0 n s.2 w)

-- ---- several words

module _ {A : Type 0} (judge : List ℕ → Judged A) (R : List ℕ → A → Type 0) where
  pub each_ok : ((word : List ℕ) (x : A) → judge word ≡ Ok x → R word x) → (words : List (List ℕ)) (xs : List A) → each judge words ≡ Ok xs → AllZip R words xs
  each_ok sound [] xs e = subst (AllZip R []) (ok_is ScriptKind [] xs e) tt
  each_ok sound (word ∷ words) xs e =
      let a = bind_ok (judge word) (λ first. each judge words >>= λ rest. Ok (first ∷ rest)) xs e in
      let b = bind_ok (each judge words) (λ rest. Ok (a.0 ∷ rest)) xs a.2 in
      subst (AllZip R (word ∷ words)) (ok_is ScriptKind (a.0 ∷ b.0) xs b.2) (sound word a.0 a.1, each_ok sound words b.0 b.1)

  pub each_back : ((word : List ℕ) (x : A) → R word x → judge word ≡ Ok x) → (words : List (List ℕ)) (xs : List A) → AllZip R words xs
      → each judge words ≡ Ok xs
  each_back complete [] [] z = refl
  each_back complete [] (x ∷ xs) z = absurd z
  each_back complete (word ∷ words) [] z = absurd z
  each_back complete (word ∷ words) (x ∷ xs) z = rw (complete word x z.0, each_back complete words xs z.1) refl

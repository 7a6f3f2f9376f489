-- A text cut behind a newline: its lines are those before and those after.
use Rattle.std.proofs.Common.{◌≡◌, ◌⊎◌, ℕ, ◌+◌, ◌<◌, ◌≤◌, ◌==◌, Bool, true, false, cond, List, [], ◌∷◌, ◌++◌, length, take, drop, map, Some, None, refl, sym, ap, subst, ◌∙◌, inl, inr, arith, one-add, get_or, append_assoc, append-nil, length-append, length-take, length-drop}
use Rattle.std.specs.List.{position, position_or_len, slice_split, onto_first}
use Rattle.std.specs.Str.Lines.{lines, lines_of_parts, strip_carriage_return}
use Rattle.std.proofs.lemmas.Bool.Decides.{nat_tests}
use Rattle.std.proofs.lemmas.List.{take-append-drop, take_all}
use Rattle.std.proofs.lemmas.Grind.{take_at_read}
use Rattle.std.proofs.lemmas.List.Quantifiers.{position-Some}
use Rattle.std.proofs.lemmas.List.Splits.{slice_split-cons_no}
use Rattle.std.proofs.Math.Seq.{take-append_seam, take-append-add}
use Rattle.script_text.proofs.Splits.{split_some}
use Rattle.script_text.proofs.LineLemmas.{lines_end}

abbrev pub is_newline : ℕ → Bool
is_newline b = b == 10

-- nothing, or whole lines
abbrev pub IsWhole : List ℕ → Type 0
IsWhole front = (front ≡ []) ⊎ ((y : List ℕ) × (front ≡ y ++ 10 ∷ []))

more_parts : (c : ℕ) (a : List ℕ) (ps bs : List (List ℕ)) → onto_first c ((a ∷ ps) ++ bs) ≡ onto_first c (a ∷ ps) ++ bs
more_parts c a ps bs = refl

onto_both : (c : ℕ) (parts bs : List (List ℕ)) (a : List ℕ) (ps : List (List ℕ)) → parts ≡ a ∷ ps → onto_first c (parts ++ bs) ≡ onto_first c parts ++ bs
onto_both c parts bs a ps e = rw e refl

split_on : (c : ℕ) (cs x : List ℕ) (b : Bool) → slice_split is_newline (cs ++ 10 ∷ x) ≡ slice_split is_newline cs ++ slice_split is_newline x
    → cond b ([] ∷ slice_split is_newline (cs ++ 10 ∷ x)) (onto_first c (slice_split is_newline (cs ++ 10 ∷ x))) ≡ cond b ([] ∷ slice_split is_newline cs) (onto_first c (slice_split is_newline cs)) ++ slice_split is_newline x
split_on c cs x true h = ap (λ (ps : List (List ℕ)). [] ∷ ps) h
split_on c cs x false h =
    let some = split_some is_newline cs in
    ap (onto_first c) h ∙ onto_both c (slice_split is_newline cs) (slice_split is_newline x) some.0 some.1 some.2

split_append : (y x : List ℕ) → slice_split is_newline (y ++ 10 ∷ x) ≡ slice_split is_newline y ++ slice_split is_newline x
split_append [] x = refl
split_append (c ∷ cs) x = split_on c cs x (is_newline c) (split_append cs x)

parts_append : (ps : List (List ℕ)) (b : List ℕ) (bs : List (List ℕ)) → lines_of_parts (ps ++ b ∷ bs) ≡ map strip_carriage_return ps ++ lines_of_parts (b ∷ bs)
parts_append [] b bs = refl
parts_append (a ∷ []) b bs = refl
parts_append (a ∷ c ∷ ps) b bs = ap (λ (ls : List (List ℕ)). strip_carriage_return a ∷ ls) (parts_append (c ∷ ps) b bs)

parts_both : (ps bs : List (List ℕ)) (b : List ℕ) (rest : List (List ℕ)) → bs ≡ b ∷ rest
    → lines_of_parts (ps ++ bs) ≡ map strip_carriage_return ps ++ lines_of_parts bs
parts_both ps bs b rest e = rw e (parts_append ps b rest)

pub lines_on : (y x : List ℕ) → lines (y ++ 10 ∷ x) ≡ map strip_carriage_return (slice_split is_newline y) ++ lines x
lines_on y x =
    let some = split_some is_newline x in
    ap lines_of_parts (split_append y x) ∙ parts_both (slice_split is_newline y) (slice_split is_newline x) some.0 some.1 some.2

lines_ended : (y : List ℕ) → lines (y ++ 10 ∷ []) ≡ map strip_carriage_return (slice_split is_newline y)
lines_ended y = lines_on y [] ∙ append-nil (map strip_carriage_return (slice_split is_newline y))

pub lines_append : (front x : List ℕ) → IsWhole front → lines (front ++ x) ≡ lines front ++ lines x
lines_append front x (inl e) = rw e refl
lines_append front x (inr (y, e)) =
    ap (λ (t : List ℕ). lines (t ++ x)) e
    ∙ (ap lines (append_assoc y (10 ∷ []) x)
    ∙ (lines_on y x
    ∙ (ap (λ (ls : List (List ℕ)). ls ++ lines x) (sym (lines_ended y)) ∙ ap (λ (t : List ℕ). lines t ++ lines x) (sym e))))

-- ---- the first lines of a text

-- so many lines end at this place
pub record IsEndOf (text : List ℕ) (at count : ℕ) : Type 0 where
  pub within : at ≤ length text
  pub cut : IsWhole (take at text)
  pub count_is : length (lines (take at text)) ≡ count

pub no_lines : (text : List ℕ) → IsEndOf text 0 0
no_lines text = record { within = omega arith; cut = inl refl; count_is = refl }

one_line : (y : List ℕ) → slice_split is_newline y ≡ y ∷ [] → length (lines (y ++ 10 ∷ [])) ≡ 1
one_line y e = ap length (lines_ended y ∙ ap (map strip_carriage_return) e)

front_on : (c : ℕ) (cs : List ℕ) (b : Bool) → is_newline c ≡ b
    → slice_split is_newline (take (position_or_len is_newline cs) cs) ≡ take (position_or_len is_newline cs) cs ∷ []
    → slice_split is_newline (take (position_or_len is_newline (c ∷ cs)) (c ∷ cs)) ≡ take (position_or_len is_newline (c ∷ cs)) (c ∷ cs) ∷ []
front_on c cs true e h = rw e refl
front_on c cs false e h = rw (e, one-add) (slice_split-cons_no is_newline c (take (position_or_len is_newline cs) cs) e ∙ ap (onto_first c) h)

front_whole : (xs : List ℕ) → slice_split is_newline (take (position_or_len is_newline xs) xs) ≡ take (position_or_len is_newline xs) xs ∷ []
front_whole [] = refl
front_whole (c ∷ cs) = front_on c cs (is_newline c) refl (front_whole cs)

before_newline : (xs : List ℕ) (at : ℕ) → position is_newline xs ≡ Some at
    → (slice_split is_newline (take at xs) ≡ take at xs ∷ []) × (take (at + 1) xs ≡ take at xs ++ 10 ∷ []) × (at < length xs)
before_newline xs at e =
    let here : (position_or_len is_newline xs ≡ at) × (position_or_len is_newline xs < length xs) = grind (arith, nat_tests) in
    let there = position-Some is_newline xs at 0 e in
    let byte : get_or xs at 0 ≡ 10 = grind (arith, nat_tests, there.1) in
    let P : ℕ → Type 0 = λ n. slice_split is_newline (take n xs) ≡ take n xs ∷ [] in
    (subst P here.0 (front_whole xs), (take_at_read xs at 0 there.0).1 ∙ ap (λ (b : ℕ). take at xs ++ b ∷ []) byte, there.0)

pub next_line : (text : List ℕ) (at end count : ℕ) → IsEndOf text at count → position is_newline (drop at text) ≡ Some end
    → IsEndOf text (at + (end + 1)) (count + 1)
next_line text at end count h e =
    let b = before_newline (drop at text) end e in
    let size : length (take at text) ≡ at = omega (arith, length-take at text, h.within) in
    let P : ℕ → Type 0 = λ k. take (k + (end + 1)) (take at text ++ drop at text) ≡ take at text ++ take (end + 1) (drop at text) in
    let more : take (at + (end + 1)) text ≡ take at text ++ (take end (drop at text) ++ 10 ∷ []) =
    ap (take (at + (end + 1))) (sym (take-append-drop at text)) ∙ (subst P size (take-append-add (take at text) (drop at text) (end + 1)) ∙ ap (λ (t : List ℕ). take at text ++ t) b.1) in
    record {
      within = omega (arith, b.2, length-drop at text, h.within);
      cut = inr (take at text ++ take end (drop at text), more ∙ sym (append_assoc (take at text) (take end (drop at text)) (10 ∷ [])));
      count_is = ap (λ (t : List ℕ). length (lines t)) more ∙ (ap length (lines_append (take at text) (take end (drop at text) ++ 10 ∷ []) h.cut) ∙ omega (arith, length-append (lines (take at text)) (lines (take end (drop at text) ++ 10 ∷ [])), h.count_is, one_line (take end (drop at text)) b.0));
    }

take_front : (xs ys : List (List ℕ)) (n : ℕ) → length xs ≡ n → take n (xs ++ ys) ≡ xs
take_front xs ys n e = let P : ℕ → Type 0 = λ k. take k (xs ++ ys) ≡ xs in subst P e (take-append_seam xs ys)

lines_both : (text : List ℕ) (at count : ℕ) → IsEndOf text at count → lines text ≡ lines (take at text) ++ lines (drop at text)
lines_both text at count h = ap lines (sym (take-append-drop at text)) ∙ lines_append (take at text) (drop at text) h.cut

-- the first lines stand before the place where they end
pub lines_cut : (text : List ℕ) (at count : ℕ) → IsEndOf text at count → lines (take at text) ≡ take count (lines text)
lines_cut text at count h =
    sym (ap (take count) (lines_both text at count h) ∙ take_front (lines (take at text)) (lines (drop at text)) count h.count_is)

last_line : (x : List ℕ) → position is_newline x ≡ None → length (lines x) ≤ 1
last_line [] e = omega arith
last_line (b ∷ bs) e = omega (arith, ap length (lines_end (b ∷ bs) (omega arith) e))

-- where no further line ends, the text has no more than one line more
pub lines_all : (text : List ℕ) (at count most : ℕ) → IsEndOf text at count → position is_newline (drop at text) ≡ None → count < most
    → lines (take (length text) text) ≡ take most (lines text)
lines_all text at count most h e less =
    let few : length (lines text) ≤ most = omega (arith, ap length (lines_both text at count h), length-append (lines (take at text)) (lines (drop at text)), h.count_is, last_line (drop at text) e) in
    ap lines (take_all (length text) text (omega arith)) ∙ sym (take_all most (lines text) few)

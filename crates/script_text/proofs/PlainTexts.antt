-- Lines that are printable and count, as a text: the lines that count in it are they, numbered on.
use Rattle.std.proofs.Common.{◌≡◌, ℕ, zero, suc, ◌+◌, ◌-◌, ◌==◌, ◌&&◌, true, false, nat_le, List, [], ◌∷◌, ◌++◌, length, map, get_or, refl, ap, ◌∙◌, arith}
use Rattle.std.specs.List.{slice_split, onto_first, range_with_len, AllByRecursion, AllZip}
use Rattle.std.specs.Str.Lines.{lines, strip_carriage_return}
use Rattle.std.proofs.lemmas.Bool.Decides.{nat_tests}
use Rattle.std.proofs.lemmas.List.Splits.{slice_split-cons_no}
use Rattle.script_text.specs.Lines.{Line, counts, counted_from, numbers_of, counted_lines, left_of}
use Rattle.script_text.specs.Words.{is_printable}
use Rattle.script_text.proofs.RowLemmas.{and_left, and_right}
use Rattle.script_text.proofs.CutLemmas.{is_newline, lines_on}
use Rattle.script_text.proofs.HeadLemmas.{IsPlain}

-- ---- lines as a text

abbrev pub text_of : List (List ℕ) → List ℕ
text_of [] = []
text_of (line ∷ rest) = line ++ 10 ∷ text_of rest

plain_byte : (c : ℕ) → (nat_le 0x20 c && nat_le c 0x7e) ≡ true → is_newline c ≡ false
plain_byte c e = grind (arith, nat_tests)

no_return : (c : ℕ) → (nat_le 0x20 c && nat_le c 0x7e) ≡ true → (c == 13) ≡ false
no_return c e = grind (arith, nat_tests)

one_part : (line : List ℕ) → is_printable line ≡ true → slice_split is_newline line ≡ line ∷ []
one_part [] p = refl
one_part (c ∷ cs) p =
    slice_split-cons_no is_newline c cs (plain_byte c (and_left (nat_le 0x20 c && nat_le c 0x7e) (is_printable cs) p))
    ∙ ap (onto_first c) (one_part cs (and_right (nat_le 0x20 c && nat_le c 0x7e) (is_printable cs) p))

no_return_at : (line : List ℕ) (k : ℕ) → is_printable line ≡ true → (get_or line k 0 == 13) ≡ false
no_return_at [] k p = refl
no_return_at (c ∷ cs) zero p = no_return c (and_left (nat_le 0x20 c && nat_le c 0x7e) (is_printable cs) p)
no_return_at (c ∷ cs) (suc k) p = no_return_at cs k (and_right (nat_le 0x20 c && nat_le c 0x7e) (is_printable cs) p)

pub kept : (line : List ℕ) → is_printable line ≡ true → strip_carriage_return line ≡ line
kept line p = rw (no_return_at line (length line - 1) p) refl

abbrev pub ArePrintable : List (List ℕ) → Type 0
ArePrintable = AllByRecursion (λ line. is_printable line ≡ true)

abbrev pub AllCount : List (List ℕ) → Type 0
AllCount = AllByRecursion (λ line. counts line ≡ true)

lines_text_of : (rows : List (List ℕ)) → ArePrintable rows → lines (text_of rows) ≡ rows
lines_text_of [] p = refl
lines_text_of (line ∷ rest) p =
    lines_on line (text_of rest)
    ∙ (ap (λ (parts : List (List ℕ)). map strip_carriage_return parts ++ lines (text_of rest)) (one_part line p.0)
    ∙ (ap (λ (x : List ℕ). x ∷ lines (text_of rest)) (kept line p.0) ∙ ap (λ (rows : List (List ℕ)). line ∷ rows) (lines_text_of rest p.1)))

-- lines that all count, numbered on from a number
abbrev pub numbered : ℕ → List (List ℕ) → List Line
numbered number [] = []
numbered number (line ∷ rest) = record { number = number; bytes = line } ∷ numbered (number + 1) rest

counted_all : (number : ℕ) (rows : List (List ℕ)) → AllCount rows → counted_from number rows ≡ numbered number rows
counted_all number [] c = refl
counted_all number (line ∷ rest) c = rw c.0 (ap (λ (t : List Line). record { number = number; bytes = line } ∷ t) (counted_all (number + 1) rest c.1))

pub plain_numbered : (number : ℕ) (rows : List (List ℕ)) → ArePrintable rows → AllByRecursion IsPlain (numbered number rows)
plain_numbered number [] p = tt
plain_numbered number (line ∷ rest) p = (p.0, plain_numbered (number + 1) rest p.1)

pub numbers_numbered : (number : ℕ) (rows : List (List ℕ)) → numbers_of (numbered number rows) ≡ range_with_len number (length rows)
numbers_numbered number [] = refl
numbers_numbered number (line ∷ rest) = ap (λ (t : List ℕ). number ∷ t) (numbers_numbered (number + 1) rest)

pub counted_lines_text_of : (rows : List (List ℕ)) → ArePrintable rows → AllCount rows → counted_lines (text_of rows) ≡ numbered 1 rows
unfolding left_of
counted_lines_text_of rows p c = ap (counted_from 1) (lines_text_of rows p) ∙ counted_all 1 rows c

-- ---- a line for each of a list

pub all_append : {A : Type 0} (P : A → Type 0) (xs ys : List A) → AllByRecursion P xs → AllByRecursion P ys → AllByRecursion P (xs ++ ys)
all_append P [] ys p q = q
all_append P (x ∷ xs) ys p q = (p.0, all_append P xs ys p.1 q)

-- a line that is printable and counts, and spells something
pub record IsLineOf {A : Type 0} (S : List ℕ → A → Type 0) (line : List ℕ) (x : A) : Type 0 where
  pub printable : is_printable line ≡ true
  pub counted : counts line ≡ true
  pub spelled : S line x

pub record AreLinesOf {A : Type 0} (S : List ℕ → A → Type 0) (number : ℕ) (rows : List (List ℕ)) (xs : List A) : Type 0 where
  pub printable : ArePrintable rows
  pub counted : AllCount rows
  pub spelled : AllZip (λ (l : Line). S l.bytes) (numbered number rows) xs
  pub size : length rows ≡ length xs

pub each_line : {A : Type 0} (S : List ℕ → A → Type 0) (text : A → List ℕ) (number : ℕ) (xs : List A)
    → AllByRecursion (λ x. IsLineOf S (text x) x) xs → AreLinesOf S number (map text xs) xs
each_line S text number [] h = record { printable = tt; counted = tt; spelled = tt; size = refl }
each_line S text number (x ∷ xs) h =
    let rest = each_line S text (number + 1) xs h.1 in
    record { printable = (h.0.printable, rest.printable); counted = (h.0.counted, rest.counted); spelled = (h.0.spelled, rest.spelled); size = ap suc rest.size }

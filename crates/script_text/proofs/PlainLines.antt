-- The lines of a text of printable bytes and newlines are printable.
use Rattle.std.proofs.Common.{◌≡◌, ℕ, ◌+◌, ◌==◌, ◌&&◌, Bool, true, false, cond, if◌then◌else◌, nat_le, List, [], ◌∷◌, length, refl, arith}
use Rattle.std.specs.List.{list_all, slice_split, onto_first, AllByRecursion}
use Rattle.std.specs.Str.Lines.{lines, lines_of_parts}
use Rattle.std.proofs.lemmas.Bool.Decides.{nat_tests}
use Rattle.script_text.specs.Lines.{Line, counts, counted_from}
use Rattle.script_text.specs.Words.{is_printable, is_plain}
use Rattle.script_text.specs.Scripts.{ArePrintable}
use Rattle.script_text.proofs.RowLemmas.{and_left, and_right}
use Rattle.script_text.proofs.CutLemmas.{is_newline}
use Rattle.script_text.proofs.PlainTexts.{kept}

abbrev AllPrintable : List (List ℕ) → Type 0
AllPrintable = AllByRecursion (λ part. is_printable part ≡ true)

printable_byte : (c : ℕ) → is_plain c ≡ true → is_newline c ≡ false → (nat_le 0x20 c && nat_le c 0x7e) ≡ true
printable_byte c e n = grind (arith, nat_tests)

onto_printable : (c : ℕ) (parts : List (List ℕ)) → (nat_le 0x20 c && nat_le c 0x7e) ≡ true → AllPrintable parts → AllPrintable (onto_first c parts)
onto_printable c [] b p = (rw b refl, tt)
onto_printable c (part ∷ parts) b p = (rw b p.0, p.1)

split_on : (c : ℕ) (parts : List (List ℕ)) (b : Bool) → is_plain c ≡ true → is_newline c ≡ b → AllPrintable parts
    → AllPrintable (cond b ([] ∷ parts) (onto_first c parts))
split_on c parts true here e p = (refl, p)
split_on c parts false here e p = onto_printable c parts (printable_byte c here e) p

split_printable : (text : List ℕ) → list_all is_plain text ≡ true → AllPrintable (slice_split is_newline text)
split_printable [] e = (refl, tt)
split_printable (c ∷ cs) e =
    split_on c (slice_split is_newline cs) (is_newline c) (and_left (is_plain c) (list_all is_plain cs) e) refl (split_printable cs (and_right (is_plain c) (list_all is_plain cs) e))

last_printable : (part : List ℕ) (b : Bool) → is_printable part ≡ true → AllPrintable (if b then [] else part ∷ [])
last_printable part true p = tt
last_printable part false p = (p, tt)

parts_printable : (parts : List (List ℕ)) → AllPrintable parts → AllPrintable (lines_of_parts parts)
parts_printable [] p = tt
parts_printable (part ∷ []) p = last_printable part (length part == 0) p.0
parts_printable (part ∷ next ∷ more) p = (rw (kept part p.0) p.0, parts_printable (next ∷ more) p.1)

counted_on : (line : Line) (rest : List Line) (b : Bool) → is_printable line.bytes ≡ true → ArePrintable rest → ArePrintable (if b then line ∷ rest else rest)
counted_on line rest true here p = (here, p)
counted_on line rest false here p = p

counted_printable : (number : ℕ) (rows : List (List ℕ)) → AllPrintable rows → ArePrintable (counted_from number rows)
counted_printable number [] p = tt
counted_printable number (line ∷ rest) p =
    counted_on (record { number = number; bytes = line }) (counted_from (number + 1) rest) (counts line) p.0 (counted_printable (number + 1) rest p.1)

pub lines_printable : (number : ℕ) (text : List ℕ) → list_all is_plain text ≡ true → ArePrintable (counted_from number (lines text))
lines_printable number text e = counted_printable number (lines text) (parts_printable (slice_split is_newline text) (split_printable text e))

-- Plain words: letters, digits and marks that stand in a line, and sentences of them.
use Rattle.std.proofs.Common.{◌≡◌, ℕ, ◌+◌, ◌<◌, ◌≤◌, ◌^◌, ◌&&◌, Bool, true, false, nat_lt, nat_le, List, [], ◌∷◌, ◌++◌, length, map, decimal, refl, sym, ap, ◌∙◌, arith, append-nil}
use Rattle.std.specs.List.{AllByRecursion, AllZip}
use Rattle.std.specs.Str.{all_ascii_digits}
use Rattle.std.specs.Str.Parse.{digits_value}
use Rattle.std.specs.Char.{is_ascii_digit}
use Rattle.std.proofs.lemmas.Bool.Decides.{nat_tests}
use Rattle.std.proofs.lemmas.List.Folds.{list_all-append}
use Rattle.std.proofs.lemmas.Fmt.{digits_decimal, digits_value-decimal, length-decimal-le, decimal_is_IsNumeral}
use Rattle.std.proofs.lemmas.Str.Parse.{IsNumeralModel, numerals_by_value, tells_all_ascii_digits}
use Rattle.spec_base.specs.Spelling.{IsValidNode, node_name}
use Rattle.spec_base.specs.declared.node.NodeId.TheVariants as nodes
use Rattle.spec_base.specs.declared.node.Side.TheVariants as sides
use Rattle.script_text.specs.Names.{NodeId, Row}
use Rattle.script_text.specs.Lines.{counts}
use Rattle.script_text.specs.Words.{is_printable, words_of, is_decimal, value_of, SpellsDecimal}
use Rattle.script_text.specs.Spelled.{SpellsRow}
use Rattle.script_text.proofs.RowLemmas.{and_left, and_right}
use Rattle.script_text.proofs.WordLemmas.{is_blank}
use Rattle.script_text.proofs.SubmitLemmas.{AreLetters, IsEnded, words_put, digits_letters}

pub record IsPlainWord (word : List ℕ) : Type 0 where
  pub some : 0 < length word
  pub letters : AreLetters word
  pub printable : is_printable word ≡ true

-- words with one space between
abbrev pub sentence : List (List ℕ) → List ℕ
sentence [] = []
sentence (word ∷ []) = word
sentence (word ∷ next ∷ words) = word ++ 32 ∷ sentence (next ∷ words)

put_word : (word rest : List ℕ) → IsPlainWord word → IsEnded rest → words_of (word ++ rest) ≡ word ∷ words_of rest
put_word [] rest w h = absurd (omega (arith, w.some))
put_word (c ∷ cs) rest w h = (words_put [] c cs rest tt w.letters h).0

blank_first : (x : List ℕ) → words_of (32 ∷ x) ≡ words_of x
unfolding words_of
blank_first x = refl

no_words : words_of [] ≡ []
unfolding words_of
no_words = refl

pub words_of_sentence : (words : List (List ℕ)) → AllByRecursion IsPlainWord words → words_of (sentence words) ≡ words
words_of_sentence [] p = no_words
words_of_sentence (w ∷ []) p = ap words_of (sym (append-nil w)) ∙ (put_word w [] p.0 tt ∙ ap (λ (ws : List (List ℕ)). w ∷ ws) no_words)
words_of_sentence (w ∷ v ∷ ws) p =
    put_word w (32 ∷ sentence (v ∷ ws)) p.0 refl ∙ ap (λ (t : List (List ℕ)). w ∷ t) (blank_first (sentence (v ∷ ws)) ∙ words_of_sentence (v ∷ ws) p.1)

both : (a b : Bool) → a ≡ true → b ≡ true → (a && b) ≡ true
both a b p q = rw (p, q) refl

pub printable_append : (x y : List ℕ) → is_printable x ≡ true → is_printable y ≡ true → is_printable (x ++ y) ≡ true
printable_append x y p q = list_all-append (λ b. nat_le 0x20 b && nat_le b 0x7e) x y ∙ both (is_printable x) (is_printable y) p q

pub printable_sentence : (words : List (List ℕ)) → AllByRecursion IsPlainWord words → is_printable (sentence words) ≡ true
printable_sentence [] p = refl
printable_sentence (w ∷ []) p = p.0.printable
printable_sentence (w ∷ v ∷ ws) p = printable_append w (32 ∷ sentence (v ∷ ws)) p.0.printable (printable_sentence (v ∷ ws) p.1)

pub counts_first : (w rest : List ℕ) → counts w ≡ true → counts (w ++ rest) ≡ true
counts_first [] rest e = absurd cc
counts_first (c ∷ cs) rest e = e

pub counts_sentence : (w : List ℕ) (words : List (List ℕ)) → counts w ≡ true → counts (sentence (w ∷ words)) ≡ true
counts_sentence w [] e = e
counts_sentence w (v ∷ words) e = counts_first w (32 ∷ sentence (v ∷ words)) e

-- ---- decimals

own : IsNumeralModel (λ ds. all_ascii_digits ds ≡ true) (digits_value 10)
own = numerals_by_value (λ ds. all_ascii_digits ds ≡ true) tells_all_ascii_digits

digit_printable : (c : ℕ) → is_ascii_digit c ≡ true → (nat_le 0x20 c && nat_le c 0x7e) ≡ true
digit_printable c e = grind (arith, nat_tests)

digits_printable : (xs : List ℕ) → all_ascii_digits xs ≡ true → is_printable xs ≡ true
digits_printable [] e = refl
digits_printable (c ∷ cs) e =
    both (nat_le 0x20 c && nat_le c 0x7e) (is_printable cs) (digit_printable c (and_left (is_ascii_digit c) (all_ascii_digits cs) e)) (digits_printable cs (and_right (is_ascii_digit c) (all_ascii_digits cs) e))

pub plain_decimal : (n : ℕ) → n < 10 ^ 18 → IsPlainWord (decimal n)
plain_decimal n h =
    let small : n < 2 ^ 64 = omega arith in
    let digits = digits_decimal own n small in
    record { some = (decimal_is_IsNumeral n small).0.0; letters = digits_letters (decimal n) digits; printable = digits_printable (decimal n) digits }

pub spelled_decimal : (n : ℕ) → n < 10 ^ 18 → SpellsDecimal (decimal n) n
unfolding is_decimal value_of
spelled_decimal n h =
    let small : n < 2 ^ 64 = omega arith in
    let digits : all_ascii_digits (decimal n) ≡ true = digits_decimal own n small in
    let some : 0 < length (decimal n) = (decimal_is_IsNumeral n small).0.0 in
    let few : length (decimal n) ≤ 18 = length-decimal-le 18 n (omega arith) h small in
    (both (nat_lt 0 (length (decimal n))) (nat_le (length (decimal n)) 18 && all_ascii_digits (decimal n)) (grind (arith, nat_tests)) (both (nat_le (length (decimal n)) 18) (all_ascii_digits (decimal n)) (grind (arith, nat_tests)) digits), sym (digits_value-decimal own n small))

pub plain_decimals : (ns : List ℕ) → AllByRecursion (λ n. n < 10 ^ 18) ns → AllByRecursion IsPlainWord (map decimal ns)
plain_decimals [] h = tt
plain_decimals (n ∷ ns) h = (plain_decimal n h.0, plain_decimals ns h.1)

pub spelled_decimals : (ns : List ℕ) → AllByRecursion (λ n. n < 10 ^ 18) ns → AllZip SpellsDecimal (map decimal ns) ns
spelled_decimals [] h = tt
spelled_decimals (n ∷ ns) h = (spelled_decimal n h.0, spelled_decimals ns h.1)

-- ---- nodes and rows

number_letter : (k : ℕ) → is_blank (48 + k) ≡ false
number_letter k = grind (arith, nat_tests)

number_printable : (k : ℕ) → k ≤ 5 → (nat_le 0x20 (48 + k) && nat_le (48 + k) 0x7e) ≡ true
number_printable k h = grind (arith, nat_tests)

pub plain_name : (n : NodeId) → IsValidNode n → IsPlainWord (node_name n)
plain_name (nodes.Seq k) h = record { some = omega arith; letters = (refl, (number_letter k, tt)); printable = both (nat_le 0x20 (48 + k) && nat_le (48 + k) 0x7e) true (number_printable k (omega (arith, h))) refl }
plain_name (nodes.Shard k sides.Primary) h = record { some = omega arith; letters = (refl, (number_letter k, (refl, tt))); printable = both (nat_le 0x20 (48 + k) && nat_le (48 + k) 0x7e) true (number_printable k h) refl }
plain_name (nodes.Shard k sides.Backup) h = record { some = omega arith; letters = (refl, (number_letter k, (refl, tt))); printable = both (nat_le 0x20 (48 + k) && nat_le (48 + k) 0x7e) true (number_printable k h) refl }
plain_name (nodes.Client k) h = record { some = omega arith; letters = (refl, (number_letter k, tt)); printable = both (nat_le 0x20 (48 + k) && nat_le (48 + k) 0x7e) true (number_printable k h) refl }
plain_name (nodes.Consumer k) h = record { some = omega arith; letters = (refl, (number_letter k, tt)); printable = both (nat_le 0x20 (48 + k) && nat_le (48 + k) 0x7e) true (number_printable k (omega (arith, h))) refl }

abbrev pub row_word : Row → List ℕ
row_word r = decimal r.shard ++ 58 ∷ decimal r.quota

letters_append : (x y : List ℕ) → AreLetters x → AreLetters y → AreLetters (x ++ y)
letters_append [] y p q = q
letters_append (c ∷ cs) y p q = (p.0, letters_append cs y p.1 q)

length_some : (x y : List ℕ) → 0 < length x → 0 < length (x ++ y)
length_some [] y h = absurd (omega arith)
length_some (c ∷ cs) y h = omega arith

pub plain_row : (r : Row) → r.shard < 10 ^ 18 → r.quota < 10 ^ 18 → IsPlainWord (row_word r)
plain_row r s q =
    let a = plain_decimal r.shard s in
    let b = plain_decimal r.quota q in
    record {
      some = length_some (decimal r.shard) (58 ∷ decimal r.quota) a.some;
      letters = letters_append (decimal r.shard) (58 ∷ decimal r.quota) a.letters (refl, b.letters);
      printable = printable_append (decimal r.shard) (58 ∷ decimal r.quota) a.printable b.printable;
    }

pub spelled_row : (r : Row) → r.shard < 10 ^ 18 → r.quota < 10 ^ 18 → SpellsRow (row_word r) r
spelled_row r s q = (decimal r.shard, decimal r.quota, refl, spelled_decimal r.shard s, spelled_decimal r.quota q)

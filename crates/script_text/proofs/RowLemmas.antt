-- A row's word: its two parts around the first colon.
use Rattle.std.proofs.Common.{◌≡◌, ℕ, ◌+◌, ◌-◌, ◌==◌, ◌&&◌, Bool, true, false, List, [], ◌∷◌, length, take, drop, Some, None, Err, refl, sym, ap, ◌∙◌, arith}
use Rattle.std.specs.List.{position, slice_split, onto_first, join_with_byte}
use Rattle.std.specs.Str.{all_ascii_digits}
use Rattle.std.specs.Char.{is_ascii_digit}
use Rattle.std.proofs.lemmas.List.Splits.{slice_split-cons_no, join_with_byte-slice_split}
use Rattle.std.proofs.lemmas.Bool.Decides.{nat_tests}
use Rattle.script_text.specs.Names.kinds
use Rattle.script_text.specs.Words.{is_decimal}
use Rattle.script_text.specs.Judged.{asked_of, asked_in}
use Rattle.script_text.proofs.Splits.{split_some, split_none, split_at, to_end}

abbrev pub is_colon : ℕ → Bool
is_colon b = b == 58

pub and_left : (a b : Bool) → (a && b) ≡ true → a ≡ true
and_left true b e = refl
and_left false b e = e

pub and_right : (a b : Bool) → (a && b) ≡ true → b ≡ true
and_right true b e = e
and_right false b e = cc

pub and_false : (a : Bool) → (a && false) ≡ false
and_false true = refl
and_false false = refl

digit_no_colon : (c : ℕ) → is_ascii_digit c ≡ true → is_colon c ≡ false
digit_no_colon c e = grind (arith, nat_tests)

digits_whole : (xs : List ℕ) → all_ascii_digits xs ≡ true → slice_split is_colon xs ≡ xs ∷ []
digits_whole [] e = refl
digits_whole (c ∷ cs) e =
    slice_split-cons_no is_colon c cs (digit_no_colon c (and_left (is_ascii_digit c) (all_ascii_digits cs) e))
    ∙ ap (onto_first c) (digits_whole cs (and_right (is_ascii_digit c) (all_ascii_digits cs) e))

-- a decimal has no colon
pub decimal_whole : (xs : List ℕ) → is_decimal xs ≡ true → slice_split is_colon xs ≡ xs ∷ []
unfolding is_decimal
decimal_whole xs e = digits_whole xs (and_right _ (all_ascii_digits xs) (and_right _ _ e))

no_quota : (shards : ℕ) (a b : List ℕ) → is_decimal b ≡ false → asked_of shards (a ∷ b ∷ []) ≡ Err kinds.Number
no_quota shards a b bad = rw (bad, and_false (is_decimal a)) refl

more_parts : (shards : ℕ) (a b y : List ℕ) (ys : List (List ℕ)) → slice_split is_colon b ≡ y ∷ ys → is_decimal b ≡ false
    → asked_of shards (a ∷ slice_split is_colon b) ≡ Err kinds.Number
more_parts shards a b y [] e bad =
    let same : y ≡ b = sym (ap (join_with_byte 58) e) ∙ join_with_byte-slice_split 58 b in
    rw e (no_quota shards a y (rw same bad))
more_parts shards a b y (z ∷ zs) e bad = rw e refl

parts_at : (shards : ℕ) (a b : List ℕ) (v : Bool) → is_decimal b ≡ v → asked_of shards (a ∷ slice_split is_colon b) ≡ asked_of shards (a ∷ b ∷ [])
parts_at shards a b true e = rw (decimal_whole b e) refl
parts_at shards a b false e =
    let some = split_some is_colon b in
    more_parts shards a b some.0 some.1 some.2 e ∙ sym (no_quota shards a b e)

-- what stands before the first colon, and what stands after it
pub asked_colon : (shards : ℕ) (word : List ℕ) (at : ℕ) → position is_colon word ≡ Some at
    → asked_in shards word ≡ asked_of shards (take at word ∷ take (length word - (at + 1)) (drop (at + 1) word) ∷ [])
unfolding asked_in
asked_colon shards word at e =
    rw (to_end word (at + 1)) (ap (asked_of shards) (split_at is_colon word at e) ∙ parts_at shards (take at word) (drop (at + 1) word) (is_decimal (drop (at + 1) word)) refl)

-- without a colon it is no row
pub asked_none : (shards : ℕ) (word : List ℕ) → position is_colon word ≡ None → asked_in shards word ≡ Err kinds.Number
unfolding asked_in
asked_none shards word e = ap (asked_of shards) (split_none is_colon word e)

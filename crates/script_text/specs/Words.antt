-- The words of a line, and the numbers that words spell.
use Rattle.std.specs.Prelude.{◌≡◌, ℕ, ◌==◌, ◌&&◌, ◌||◌, nat_le, nat_eq, Bool, true, false, not, List, [], ◌∷◌, drop, IsTrue}
use Rattle.std.specs.List.{list_all, filter, slice_split, prefix_len}
use Rattle.std.specs.Cmp.Lexicographic.{pointwise}
use Rattle.std.specs.Str.Parse.{digits_value}
use Rattle.record_codec.specs.Decimals as decimals

-- bytes from 0x20 to 0x7e
abbrev pub is_printable : List ℕ → Bool
is_printable bytes = list_all (λ b. nat_le 0x20 b && nat_le b 0x7e) bytes

-- a printable byte, or a newline
abbrev pub is_plain : ℕ → Bool
is_plain b = (nat_le 0x20 b && nat_le b 0x7e) || (b == 10)

-- what follows the elements in front that pass a test
abbrev pub drop_front : (ℕ → Bool) → List ℕ → List ℕ
drop_front test bytes = drop (prefix_len test bytes) bytes

-- there is a byte
abbrev pub has_bytes : List ℕ → Bool
has_bytes [] = false
has_bytes (b ∷ bs) = true

-- the words of a line: what stands between its spaces, where anything does
unfoldable pub words_of : List ℕ → List (List ℕ)
words_of line = filter has_bytes (slice_split (λ b. b == 0x20) line)

-- what follows the first word of a line, from the space after it on
unfoldable pub after_word : List ℕ → List ℕ
after_word line = drop_front (λ b. not (b == 0x20)) (drop_front (λ b. b == 0x20) line)

-- the word is this one
abbrev pub is_word : List ℕ → List ℕ → Bool
is_word due word = pointwise nat_eq word due

-- 1 to 18 digits
unfoldable pub is_decimal : List ℕ → Bool
is_decimal word = decimals.is_decimal 18 word

-- the number that digits spell
unfoldable pub value_of : List ℕ → ℕ
value_of word = digits_value 10 word

-- a decimal of 1 to 18 digits spells a number; zeros may stand in front
abbrev pub SpellsDecimal : List ℕ → ℕ → Type 0
SpellsDecimal word n = IsTrue (is_decimal word) × (n ≡ value_of word)

-- The words of a body, parted by single spaces.
use Rattle.std.specs.Prelude.{ℕ, Bool, ◌==◌, ◌&&◌, nat_le, List, [], ◌∷◌, length, Option, Some, None, if◌then◌else◌}
use Rattle.std.specs.List.{list_all}
use Rattle.std.specs.Char.{is_ascii_graphic}

-- one more byte before the first of the words
abbrev pub put_first : ℕ → List (List ℕ) → List (List ℕ)
put_first c [] = (c ∷ []) ∷ []
put_first c (w ∷ ws) = (c ∷ w) ∷ ws

-- the words of a text: each space ends one, and two spaces have an empty word between them
abbrev pub words : List ℕ → List (List ℕ)
words [] = [] ∷ []
words (c ∷ cs) = if c == 32 then [] ∷ words cs else put_first c (words cs)

-- 1 to so many bytes from 0x21 to 0x7e
abbrev pub is_printable : ℕ → List ℕ → Bool
is_printable most text = nat_le 1 (length text) && (nat_le (length text) most && list_all is_ascii_graphic text)

-- such a text; none for any other
abbrev pub printable_in : ℕ → List ℕ → Option (List ℕ)
printable_in most text = if is_printable most text then Some text else None

-- the words that follow a space, where there is one
abbrev pub words_after : Option (List ℕ) → List (List ℕ)
words_after (Some rest) = words rest
words_after None = []

-- The lines of a text, and those of them that count.
use Rattle.std.specs.Prelude.{ℕ, ◌+◌, ◌==◌, Bool, false, not, if◌then◌else◌, List, [], ◌∷◌, length, map}
use Rattle.std.specs.Str.Lines.{lines}

-- a line that counts is neither empty nor a comment
abbrev pub counts : List ℕ → Bool
counts [] = false
counts (b ∷ bs) = not (b == 35)

-- a line, and its number in the text
pub record Line : Type 0 where
  pub number : ℕ
  pub bytes : List ℕ

abbrev pub numbers_of : List Line → List ℕ
numbers_of lines = map (λ (l : Line). l.number) lines

-- of lines that are numbered on from a number, those that count
abbrev pub counted_from : ℕ → List (List ℕ) → List Line
counted_from number [] = []
counted_from number (line ∷ rest) =
    if counts line then record { number = number; bytes = line } ∷ counted_from (number + 1) rest
    else counted_from (number + 1) rest

-- a part of a text from the beginning of a line on, and the number of that line
pub record Rest : Type 0 where
  pub number : ℕ
  pub text : List ℕ

-- the lines of it that count. A line ends with a newline or with the end of the text, the carriage return before a newline is dropped, and a
-- newline at the end of the text begins no further line
unfoldable pub left_of : Rest → List Line
left_of rest = counted_from rest.number (lines rest.text)

-- the number of the line after its last one
unfoldable pub end_of : Rest → ℕ
end_of rest = rest.number + length (lines rest.text)

-- a text, whose lines are numbered from 1
abbrev pub whole : List ℕ → Rest
whole text = record { number = 1; text = text }

-- the lines of a text that count
abbrev pub counted_lines : List ℕ → List Line
counted_lines text = left_of (whole text)

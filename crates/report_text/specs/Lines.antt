-- How lines of text are put together: words and numbers, one after the other.
use Rattle.std.specs.Prelude.{ℕ, List, ◌++◌, codes, decimal}

-- words, and the number that follows them
abbrev pub counted : List ℕ → ℕ → List ℕ
counted words number = words ++ decimal number

-- the end of a line
abbrev pub ended : List ℕ → List ℕ
ended text = text ++ codes "\n"

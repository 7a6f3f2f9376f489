-- The rule of the book that keeps the history of the looks, and what its step tells.
use Rattle.std.specs.Prelude.{ℕ, ◌≡◌, ◌==◌, true, List, [], ◌∷◌, ◌++◌, MatchBool}
use Rattle.logbook.specs.Pages.{Cell, Step, View, Book, Named}
use Rattle.view_cell.specs.declared.look.Look.{Look}
use Rattle.view_cell.specs.Looks.{IsHistory, last_number}

-- the book's word is the number of the last look of the history
pub record IsWritten (cells : List Cell) (log : List Look) : Type 0 where
  pub words : cells ≡ (last_number 0 log, true) ∷ []
  pub history : IsHistory log

abbrev pub word_of : Book → Named
word_of b = record { tracked = true; key = 0; book = b }

-- where the number found is that of the last look that was seen, the look was added to all that had been seen
abbrev pub Adds : Step Look → View Look ℕ → ℕ → View Look ℕ → Type 0
Adds s v found w = MatchBool (found == s.old) (w.0 ≡ v.0 ++ s.ask ∷ []) (Unit {0})

-- The rule of the cell: who knows a book knows the one of what is shown, and nobody is handed an older look than before.
use Rattle.std.specs.Prelude.{◌≡◌, ℕ, ◌≤◌, true, false, List, [], ◌∷◌, ◌++◌}
use mathlib.Core.Option.{some}
use lib.ListN.{get_elem?}
use Rattle.view_cell.specs.Looks.{last_number}
use Rattle.view_cell.specs.inside.History.{word_of}
use Rattle.view_cell.specs.declared.published.Published.{Published}
use Rattle.view_cell.specs.declared.cell.Knows.{Knows}

-- it knows no book, and was handed nothing
abbrev pub newcomer : Knows
newcomer = record { head = record { tracked = false; key = 0; book = record { number = 0; log_name = 0; cells_name = 0 } }; handed = [] }

-- the book that it knows, if it knows one, is that of x; and x is no older than what it was handed last
pub record Fits (x : Published) (v : Knows) : Type 0 where
  pub book : v.head.tracked ≡ true → v.head.book ≡ x.seen.book
  pub rises : last_number 0 v.handed ≤ x.look.ops

abbrev pub Keeps : Published → List Knows → Type 0
Keeps x views = (seat : ℕ) (v : Knows) → get_elem? views seat ≡ some v → Fits x v

-- what it knows once it was handed y
abbrev pub handing : Published → Knows → Knows
handing y v = record { head = word_of y.seen.book; handed = v.handed ++ y.look ∷ [] }

-- it was handed y, which fits what it knew
abbrev pub Looked : Knows → Published → Published → Knows → Type 0
Looked v x y w = (w ≡ handing y v) × Fits y v

-- it takes in which book another knows
abbrev pub informed : Knows → Knows → Knows
informed v w = record { head = w.head; handed = v.handed }

-- The views of consumers and their readers, as a run begins.
use Rattle.std.specs.Prelude.{◌≡◌, ◌==◌, ℕ, suc, ◌+◌, ⊤, Bool, true, false, List, [], ◌∷◌, length, Some, slice_get}
use Rattle.std.specs.List.{AllByRecursion}
use Rattle.view_cell.specs.declared.look.Look.{Look}
use Rattle.view_cell.specs.Ends.{Showing, Watching, opened_at, watching_at}
use Rattle.cluster_users.specs.Reading.{Reading, reading}

-- ---- how many readers a consumer has

abbrev pub one_if : Bool → ℕ
one_if true = 1
one_if false = 0

-- of readers, each given by its consumer, those of one consumer
abbrev pub count_of : ℕ → List ℕ → ℕ
count_of consumer [] = 0
count_of consumer (of ∷ later) = one_if (of == consumer) + count_of consumer later

-- consumers from a number on have as many passes as readers
abbrev pub AreCounted : ℕ → List ℕ → List (List Watching) → Type 0
AreCounted consumer readers [] = ⊤
AreCounted consumer readers (passes ∷ later) = (length passes ≡ count_of consumer readers) × AreCounted (suc consumer) readers later

-- ---- views

-- a look with which a view may open
abbrev pub IsOpening : Look → Type 0
IsOpening look = look.ops ≡ 0

-- a view that shows its opening look, and on which nothing was published
abbrev pub IsOpened : Look → Showing → Type 0
IsOpened opening p = p ≡ opened_at p.cell opening

-- passes of this view, with none of which anybody has looked
abbrev pub WaitAt : Showing → List Watching → Type 0
WaitAt p passes = AllByRecursion (λ (pass : Watching). pass ≡ watching_at p.cell p.newest) passes

-- ---- readers

-- readers from a number on, each of its consumer's view, at which it has not looked yet
abbrev pub AreWatching : List Showing → ℕ → List ℕ → List Reading → Type 0
AreWatching views number [] [] = ⊤
AreWatching views number [] (r ∷ later) = ⊥
AreWatching views number (consumer ∷ consumers) [] = ⊥
AreWatching views number (consumer ∷ consumers) (r ∷ later) =
    (p : Showing) × (slice_get views consumer ≡ Some p) × (r ≡ reading number consumer (watching_at p.cell p.newest))
    × AreWatching views (suc number) consumers later

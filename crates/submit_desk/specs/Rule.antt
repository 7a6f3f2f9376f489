-- The rule of a desk: all that was submitted is one list, whose beginning was taken and whose rest lies on the desk.
use Rattle.std.specs.Prelude.{◌≡◌, ℕ, suc, ◌<◌, ◌≤◌, true, List, [], ◌∷◌, ◌++◌, length, ⊤}
use Rattle.std.specs.List.{AllByRecursion}
use mathlib.Core.Option.{Option, some, none}
use lib.ListN.{get_elem?}
use Rattle.submit_desk.specs.declared.item.DeskItem.{DeskItem}
use Rattle.submit_desk.specs.declared.knows.Closed.{Closed}
use Rattle.submit_desk.specs.declared.knows.Knows.{Knows}
use Rattle.submit_desk.specs.Passes.{items_of, taker, submitter}

-- what happened at a desk: all items that were submitted and those that were taken, the oldest first; the number of the pass
-- of each submitter that isn't back; the number of the taking pass
pub record DeskHistory : Type 0 where
  pub all : List DeskItem
  pub got : List DeskItem
  pub seat : ℕ → Option ℕ
  pub taking : ℕ

-- the items are numbered one after another, from a number on
abbrev pub IsCountedFrom : ℕ → List DeskItem → Type 0
IsCountedFrom number [] = ⊤
IsCountedFrom number (x ∷ rest) = (x.number ≡ number) × IsCountedFrom (suc number) rest

-- each submitter's items are numbered 0, 1, 2 and so on
abbrev pub IsCounted : List DeskItem → Type 0
IsCounted all = (by : ℕ) → IsCountedFrom 0 (items_of by all)

-- a submitter's pass is that submitter's one, and knows all that was submitted by it
abbrev pub FitsSubmitter : DeskHistory → ℕ → Knows → Type 0
FitsSubmitter h pass v = v.submits ≡ true → (h.seat v.by ≡ some pass) × (v.put ≡ items_of v.by h.all)

-- nothing was submitted by the submitters from a number on, and none of them has a pass
abbrev pub IsUnused : DeskHistory → ℕ → Type 0
IsUnused h next = (by : ℕ) → next ≤ by → (h.seat by ≡ none) × (items_of by h.all ≡ [])

-- a submitter is back with all that was submitted by it
abbrev pub IsClosed : DeskHistory → ℕ → Closed → Type 0
IsClosed h next c = (h.seat c.by ≡ none) × (c.put ≡ items_of c.by h.all) × (c.by < next)

-- the taking pass is the only one, and knows what was taken
abbrev pub FitsTaker : DeskHistory → ℕ → Knows → Type 0
FitsTaker h pass v =
    v.takes ≡ true → (pass ≡ h.taking) × (v.got ≡ h.got) × IsUnused h v.next × AllByRecursion (IsClosed h v.next) v.closed

abbrev pub Fits : DeskHistory → ℕ → Knows → Type 0
Fits h pass v = FitsSubmitter h pass v × FitsTaker h pass v

-- something holds of each pass, by its number
abbrev pub Each : (ℕ → Knows → Type 0) → List Knows → Type 0
Each F views = (pass : ℕ) (v : Knows) → get_elem? views pass ≡ some v → F pass v

-- there is one history: what was taken is its beginning, the desk holds its rest, and each pass knows its part of it
abbrev pub Delivers : List DeskItem → List Knows → Type 0
Delivers items views =
    (h : DeskHistory) × (h.all ≡ h.got ++ items) × IsCounted h.all × Each (Fits h) views

-- an item is submitted: the pass's list grows by it
abbrev pub Puts : Knows → DeskItem → Knows → Type 0
Puts v x w = w ≡ submitter v.by (v.put ++ x ∷ [])

-- an item is taken: the pass's list grows by it, and it is the next one of a submitter that has had a pass
abbrev pub Gets : Knows → DeskItem → Knows → Type 0
Gets v x w =
    (w ≡ taker (v.got ++ x ∷ []) v.next v.closed) × (x.number ≡ length (items_of x.by v.got)) × (x.by < v.next)

-- what a submitter has on the desk is the rest of what it submitted
abbrev pub EndsWith : Knows → List DeskItem → Type 0
EndsWith v items = (taken : List DeskItem) × (v.put ≡ taken ++ items_of v.by items)

-- what each submitter that is back had submitted was taken, or else lies on the desk
abbrev pub Accounts : Knows → List DeskItem → Type 0
Accounts v items = AllByRecursion (λ (c : Closed). c.put ≡ items_of c.by v.got ++ items_of c.by items) v.closed

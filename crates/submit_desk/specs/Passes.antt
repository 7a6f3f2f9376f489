-- What contracts see of a desk and of a pass, and what a pass knows after each kind of step.
use Rattle.std.specs.Prelude.{◌≡◌, ℕ, ◌+◌, ◌==◌, true, false, List, [], ◌∷◌}
use Rattle.std.specs.List.{filter}
use Rattle.atomic_table.specs.Seated.{TableId}
use Rattle.submit_desk.specs.declared.item.DeskItem.{DeskItem}
use Rattle.submit_desk.specs.declared.knows.Closed.{Closed}
use Rattle.submit_desk.specs.declared.knows.Knows.{Knows}

-- a desk: which one it is, and the count of items that it has room for
pub record DeskView : Type 0 where
  pub desk : TableId
  pub capacity : ℕ

-- a pass: of which desk it is, and what it knows
pub record PassView : Type 0 where
  pub desk : TableId
  pub knows : Knows

-- the items of one submitter, in order
abbrev pub items_of : ℕ → List DeskItem → List DeskItem
items_of by items = filter (λ (x : DeskItem). x.by == by) items

-- the taking pass: what it took, the number from which on no submitter has had a pass, and the submitters that are back
abbrev pub taker : List DeskItem → ℕ → List Closed → Knows
taker got next closed =
    record { submits = false; by = 0; put = []; takes = true; got = got; next = next; closed = closed }

-- a submitter's pass: its number, and what it submitted
abbrev pub submitter : ℕ → List DeskItem → Knows
submitter by put =
    record { submits = true; by = by; put = put; takes = false; got = []; next = 0; closed = [] }

-- the taking pass once a pass was made of it
abbrev pub seated : Knows → ℕ → Knows
seated v by = taker v.got (by + 1) v.closed

-- the taking pass once a submitter's pass is back: what that one knew is added
abbrev pub closed_by : Knows → Knows → Knows
closed_by v w = taker v.got v.next (record { by = w.by; put = w.put } ∷ v.closed)

-- what is left of a submitter's pass that is back
abbrev pub spent : Knows
spent = record { submits = false; by = 0; put = []; takes = false; got = []; next = 0; closed = [] }

-- a submitter's pass of a desk
abbrev pub IsSubmitting : TableId → PassView → Type 0
IsSubmitting desk p = (p.desk ≡ desk) × (p.knows.submits ≡ true)

-- a pass of a desk for a submitter that has submitted nothing yet
abbrev pub IsFresh : TableId → ℕ → PassView → Type 0
IsFresh desk by p = (p.desk ≡ desk) × (p.knows ≡ submitter by [])

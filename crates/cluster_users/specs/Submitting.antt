-- What contracts see of a submitter, and what its turns do.
use Rattle.std.specs.Prelude.{◌≡◌, ℕ, ◌+◌, ◌≤◌, List, [], ◌++◌, length, map, slice_get, IsSomeAnd}
use Rattle.std.specs.List.{AllByRecursion}
use mathlib.Core.List.{IsPrefix}
use Rattle.atomic_table.specs.Seated.{TableId}
use Rattle.submit_desk.specs.declared.item.DeskItem.{DeskItem}
use Rattle.submit_desk.specs.Passes.{DeskView}
use Rattle.submit_desk.specs.Rule.{IsCountedFrom}

pub record Submitting : Type 0 where
  pub number : ℕ
  pub client : ℕ  -- whose desk it submits to
  pub desk : TableId  -- of which its pass is
  pub put : List DeskItem  -- what it has submitted, in order
  pub held : List (List ℕ)  -- the bodies that it still holds, in order

-- one that has submitted nothing yet
abbrev pub submitting : ℕ → ℕ → TableId → List (List ℕ) → Submitting
submitting number client desk bodies = record { number = number; client = client; desk = desk; put = []; held = bodies }

-- all its bodies: those that it has submitted, and those that it still holds
abbrev pub bodies_of : Submitting → List (List ℕ)
bodies_of s = map (λ (x : DeskItem). x.body) s.put ++ s.held

-- they are of one submitter, and are numbered 0, 1, 2 and so on
abbrev pub AreItemsOf : ℕ → List DeskItem → Type 0
AreItemsOf by items = AllByRecursion (λ (x : DeskItem). x.by ≡ by) items × IsCountedFrom 0 items

-- its pass is of its client's desk
abbrev pub HasDesk : List DeskView → Submitting → Type 0
HasDesk desks s = IsSomeAnd (slice_get desks s.client) (λ (d : DeskView). d.desk ≡ s.desk)

-- what so many turns do: its next bodies were put on the desk, one a turn at most, and it holds the rest
pub record Submits (turns : ℕ) (before after : Submitting) : Type 0 where
  pub same : (after.number ≡ before.number) × (after.client ≡ before.client) × (after.desk ≡ before.desk)
  pub items : AreItemsOf after.number after.put
  pub goes_on : IsPrefix before.put after.put
  pub bodies : bodies_of after ≡ bodies_of before
  pub few : length after.put ≤ length before.put + turns

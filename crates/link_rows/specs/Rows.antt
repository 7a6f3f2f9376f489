-- The ends of the links between several nodes: a row of ends for each node.
use Rattle.std.specs.Prelude.{◌≡◌, ℕ, ◌<◌, List, [], ◌∷◌, ◌++◌, length, map, Option, Some, None, slice_get}
use Rattle.std.specs.List.{AllByRecursion}
use Rattle.node_links.specs.Links.{LinkName, Sending, Receiving}

abbrev pub names_of_outs : List Sending → List LinkName
names_of_outs = map (λ (o : Sending). o.link)

abbrev pub names_of_ins : List Receiving → List LinkName
names_of_ins = map (λ (i : Receiving). i.link)

abbrev pub at_of_row : {X : Type 0} → Option (List X) → ℕ → Option X
at_of_row None j = None
at_of_row (Some row) j = slice_get row j

-- the entry of a row
abbrev pub entry_at : {X : Type 0} → List (List X) → ℕ → ℕ → Option X
entry_at rows i j = at_of_row (slice_get rows i) j

-- so many rows of so many entries each
pub record IsGrid {X : Type 0} (height width : ℕ) (rows : List (List X)) : Type 0 where
  pub height_is : length rows ≡ height
  pub width_is : AllByRecursion (λ (row : List X). length row ≡ width) rows

-- what node `from` sends on to node `to` is the link on which that one receives from it
pub record AreLinked (count : ℕ) (outs ins : List (List LinkName)) : Type 0 where
  pub outs_are : IsGrid count count outs
  pub ins_are : IsGrid count count ins
  pub linked : (from to : ℕ) → from < count → to < count → entry_at ins to from ≡ entry_at outs from to

-- nothing was sent on an end, nothing came of one
abbrev pub IsUnsent : Sending → Type 0
IsUnsent o = (o.pushed ≡ []) × (o.waiting ≡ [])

abbrev pub IsUnread : Receiving → Type 0
IsUnread i = (i.received ≡ []) × (i.waiting ≡ [])

abbrev pub OfEach : {X : Type 0} → (X → Type 0) → List (List X) → Type 0
OfEach P = AllByRecursion (AllByRecursion P)

-- ---- how they are made, a sender at a time

-- an entry at the end of each of the first rows
abbrev pub with_column : {X : Type 0} → List (List X) → List X → List (List X)
with_column rows [] = rows
with_column [] (x ∷ xs) = []
with_column (row ∷ rows) (x ∷ xs) = (row ++ x ∷ []) ∷ with_column rows xs

-- column after column
abbrev pub with_columns : {X : Type 0} → List (List X) → List (List X) → List (List X)
with_columns rows [] = rows
with_columns rows (column ∷ columns) = with_columns (with_column rows column) columns

-- the other end of a link on which nothing was sent
abbrev pub other_end : Sending → Receiving
other_end o = record { link = o.link; received = []; waiting = [] }

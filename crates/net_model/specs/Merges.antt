-- The merge of journals: all their steps in one list, by stamp and then by node.
use Rattle.std.specs.Prelude.{◌≡◌, ℕ, ◌<◌, ◌==◌, nat_lt, nat_le, Bool, true, ◌&&◌, ◌||◌, if◌then◌else◌, List, [], ◌∷◌, ◌++◌, map, filter}
use Rattle.std.specs.Prelude.{Contains, IsPermutation}
use Rattle.std.specs.List.{AllByRecursion}
use Rattle.std.specs.Borrow.{Bor}
use Rattle.msg_wire.specs.Nodes.{number_of, same_node}
use Rattle.spec_base.specs.declared.node.Side.TheVariants as sides
use Rattle.net_model.specs.declared.journal.Stamped.{Stamped}
use Rattle.net_model.specs.Names.{NodeId, Message, HistoryEntry}
use Rattle.net_model.specs.Names.nodes
use Rattle.net_model.specs.Pasts.{Past, past_of, sent}
use Rattle.net_model.specs.Journals.{OwnSteps, IsJournal, distinct_nodes, all_steps}

-- ---- which step goes first

-- sequencers, replicas, clients, consumers
abbrev pub kind_of : NodeId → ℕ
kind_of (nodes.Seq number) = 0
kind_of (nodes.Shard number side) = 1
kind_of (nodes.Client number) = 2
kind_of (nodes.Consumer number) = 3

-- a shard's primary, then its backup
abbrev pub side_of : NodeId → ℕ
side_of (nodes.Shard number sides.Backup) = 1
side_of _ = 0

-- by kind, then by number, then by side
abbrev pub is_no_later_node : NodeId → NodeId → Bool
is_no_later_node a b =
    nat_lt (kind_of a) (kind_of b)
    || ((kind_of a == kind_of b) && (nat_lt (number_of a) (number_of b) || ((number_of a == number_of b) && nat_le (side_of a) (side_of b))))

-- by stamp, then by node
abbrev pub comes_first : Stamped → Stamped → Bool
comes_first x y = nat_lt x.stamp y.stamp || ((x.stamp == y.stamp) && is_no_later_node x.entry.node y.entry.node)

-- each step comes before all that follow it
abbrev pub IsInOrder : List Stamped → Type 0
IsInOrder [] = Unit {0}
IsInOrder (x ∷ later) = AllByRecursion (λ (y : Stamped). comes_first x y ≡ true) later × IsInOrder later

-- ---- the merge

abbrev pub entry_of : Stamped → HistoryEntry
entry_of x = x.entry

-- the entries of steps, up to some moment
abbrev pub past_in : List Stamped → Past
past_in steps = past_of (map entry_of steps)

abbrev pub is_step_of : NodeId → Stamped → Bool
is_step_of node x = same_node x.entry.node node

-- whatever was sent with a smaller stamp was sent before
abbrev pub SendsComeFirst : List Stamped → Type 0
SendsComeFirst steps =
    (before later : List Stamped) (x y : Stamped) (message : Message) → steps ≡ before ++ y ∷ later
    → Contains steps x → x.stamp < y.stamp → Contains x.entry.sends message → Contains (sent (past_in before)) message

-- a history is the merge of journals
pub record IsMergeOf (journals : List OwnSteps) (history : List HistoryEntry) : Type 0 where
  pub steps : List Stamped
  pub entries : history ≡ map entry_of steps
  pub each_once : IsPermutation (all_steps journals) steps
  pub in_order : IsInOrder steps
  pub own_order : (j : OwnSteps) → Contains journals j → filter (is_step_of j.node) steps ≡ j.steps
  pub sends_first : SendsComeFirst steps

-- ---- how it is made

-- x before what is made of the rest, or after those of the second list that go first
abbrev pub put_into : {X : Type 0} → (X → X → Bool) → X → (List X → List X) → List X → List X
put_into first x rest [] = x ∷ rest []
put_into first x rest (y ∷ ys) = if first x y then x ∷ rest (y ∷ ys) else (y ∷ put_into first x rest ys)

-- two lists in one, each in its order
abbrev pub interleaved : {X : Type 0} → (X → X → Bool) → List X → List X → List X
interleaved first [] ys = ys
interleaved first (x ∷ xs) ys = put_into first x (interleaved first xs) ys

abbrev pub values_of : List (Bor Stamped) → List Stamped
values_of = map (λ (b : Bor Stamped). b.now)

-- the steps of some of the journals, in order
pub record AreSteps (journals : List OwnSteps) (steps : List Stamped) : Type 0 where
  pub journals_are : AllByRecursion IsJournal journals
  pub each_once : IsPermutation (all_steps journals) steps
  pub in_order : IsInOrder steps
  pub own_order : distinct_nodes journals ≡ true → (node : NodeId) → filter (is_step_of node) steps ≡ filter (is_step_of node) (all_steps journals)

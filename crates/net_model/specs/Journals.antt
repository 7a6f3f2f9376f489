-- Journals: what each node wrote of its own steps, each step with its stamp.
use Rattle.std.specs.Prelude.{◌≡◌, ℕ, ◌<◌, Bool, true, false, ◌&&◌, ◌||◌, not, Option, Some, None, List, [], ◌∷◌, ◌++◌}
use Rattle.std.specs.List.{AllByRecursion}
use Rattle.std.specs.Option.{unwrap_or}
use Rattle.msg_wire.specs.Nodes.{same_node}
use Rattle.net_model.specs.declared.journal.Stamped.{Stamped}
use Rattle.net_model.specs.Names.{NodeId}

-- a node and its own steps, the oldest first
pub record OwnSteps : Type 0 where
  pub node : NodeId
  pub steps : List Stamped

-- each stamp is above those before it
abbrev pub Rises : List Stamped → Type 0
Rises [] = Unit {0}
Rises (x ∷ later) = AllByRecursion (λ (y : Stamped). x.stamp < y.stamp) later × Rises later

pub record IsJournal (j : OwnSteps) : Type 0 where
  pub own : AllByRecursion (λ (x : Stamped). x.entry.node ≡ j.node) j.steps
  pub rises : Rises j.steps

-- the stamp of the last step
abbrev pub last_stamp : List Stamped → Option ℕ
last_stamp [] = None
last_stamp (x ∷ later) = Some (unwrap_or (last_stamp later) x.stamp)

abbrev pub IsAbove : ℕ → Option ℕ → Type 0
IsAbove stamp None = Unit {0}
IsAbove stamp (Some last) = last < stamp

-- a further step of a journal: one of its node, with a stamp above its last one
pub record GoesOn (j : OwnSteps) (x : Stamped) : Type 0 where
  pub own : x.entry.node ≡ j.node
  pub rises : IsAbove x.stamp (last_stamp j.steps)

-- ---- several journals

abbrev pub has_journal_of : NodeId → List OwnSteps → Bool
has_journal_of node [] = false
has_journal_of node (j ∷ later) = same_node j.node node || has_journal_of node later

-- no two are of one node
abbrev pub distinct_nodes : List OwnSteps → Bool
distinct_nodes [] = true
distinct_nodes (j ∷ later) = not (has_journal_of j.node later) && distinct_nodes later

-- the steps of all, journal after journal
abbrev pub all_steps : List OwnSteps → List Stamped
all_steps [] = []
all_steps (j ∷ later) = j.steps ++ all_steps later

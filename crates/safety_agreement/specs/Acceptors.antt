-- What a slot's acceptor has of the items of its sequencer.
use Rattle.std.specs.Prelude.{[], ◌∷◌, ◌⊎◌, ℕ, ◌<◌, ◌≤◌, List, Contains, Option, Some, None}
use Rattle.majority.specs.Acceptors.{AcceptorState}
use Rattle.majority.specs.Agreement.{Reaches, LastOf}
use Rattle.net_model.specs.Pasts.{Past}
use Rattle.seq_node.specs.States.{acceptor_at}
use Rattle.runs.specs.Names.{Config, Entry, Item}
use Rattle.runs.specs.Names.nodes
use Rattle.runs.specs.Names.items
use Rattle.runs.specs.Kinds.{sequencer_after, items_at}
use Rattle.runs.specs.Marks.{EachAfter}

-- the vote of the greatest ballot among the items; none where there is no vote
abbrev pub IsLast : ℕ → List Item → Option (ℕ × Entry) → Type 0
IsLast slot stored = LastOf (λ ballot entry. Contains stored (items.Accepted slot ballot entry))

-- a ballot of an item
abbrev pub IsOfItem : ℕ → List Item → Option ℕ → Type 0
IsOfItem slot stored None = Unit {0}
IsOfItem slot stored (Some ballot) =
    Contains stored (items.Promised slot ballot) ⊎ ((entry : Entry) × Contains stored (items.Accepted slot ballot entry))

-- an item of the slot has no ballot below that of an earlier one
abbrev pub RisesAt : ℕ → List Item → Item → Type 0
RisesAt slot earlier item = (ballot later : ℕ) → IsOfItem slot earlier (Some ballot) → IsOfItem slot (item ∷ []) (Some later) → ballot ≤ later

-- along the items of the slot the ballots don't fall; the promise is the greatest of them, and the acceptance the last vote
pub record HasLast (slot : ℕ) (stored : List Item) (own : AcceptorState Entry) : Type 0 where
  pub of_item : IsOfItem slot stored own.promised
  pub promised : (ballot : ℕ) → Contains stored (items.Promised slot ballot) → Reaches own.promised ballot
  pub accepted : (ballot : ℕ) (entry : Entry) → Contains stored (items.Accepted slot ballot entry) → Reaches own.promised ballot
  pub last : IsLast slot stored own.accepted
  pub rises : EachAfter (RisesAt slot) [] stored

abbrev pub AcceptorIsItems : Config → Past → Type 0
AcceptorIsItems cfg past =
    (slot number : ℕ) → number < cfg.seqs → HasLast slot (items_at cfg (nodes.Seq number) past) (acceptor_at (sequencer_after cfg number past).own slot)

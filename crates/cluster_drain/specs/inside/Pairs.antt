-- The link from the node at one place to the one at another, in the list of nodes.
use Rattle.std.specs.Prelude.{◌≡◌, ℕ, List, ◌++◌, get_or, slice_set, Some}
use Rattle.link_rows.specs.Rows.{entry_at}
use Rattle.node_links.specs.Links.{Sending, Receiving}
use Rattle.node_actor.specs.declared.actor.NodeActor.{NodeActor}
use Rattle.node_seats.specs.Seats.{ins_of, outs_of}
use Rattle.node_actor.specs.Settling.{AreEnds, AreSettledEnds, with_ins_of, with_outs_of}

module _ {N D : Type 0} where
  abbrev pub AreLinkEnds : ℕ → ℕ → List (NodeActor N D) → Type 0
  AreLinkEnds from to actors = (a b : NodeActor N D) → AreEnds (get_or actors from a).outs.items to (get_or actors to b).ins.items from

  -- what was received on a link, and what waits there, is all that was pushed into it
  abbrev pub IsLinkSettled : List (NodeActor N D) → ℕ → ℕ → Type 0
  IsLinkSettled actors from to =
      (out : Sending) (into : Receiving) → entry_at (outs_of actors) from to ≡ Some out → entry_at (ins_of actors) to from ≡ Some into
      → into.received ++ into.waiting ≡ out.pushed

  abbrev pub StaySettled : List (NodeActor N D) → List (NodeActor N D) → Type 0
  StaySettled before after = (from to : ℕ) → IsLinkSettled before from to → IsLinkSettled after from to

  -- the sender's ends were written, and then the receiver's, which may be the same node
  pub record IsSettledPair (from to : ℕ) (before after : List (NodeActor N D)) : Type 0 where
    pub sender : NodeActor N D
    pub receiver : NodeActor N D
    pub after_is : after ≡ slice_set (slice_set before from sender) to receiver
    pub sends : (a : NodeActor N D) → sender ≡ with_outs_of sender (get_or before from a)
    pub receives : (a : NodeActor N D) → receiver ≡ with_ins_of receiver (get_or (slice_set before from sender) to a)
    pub settled : (a b : NodeActor N D)
        → AreSettledEnds (get_or before from a).outs.items sender.outs.items to (get_or before to b).ins.items receiver.ins.items from

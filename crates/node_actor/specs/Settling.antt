-- The two ends of a link, in the rows of their nodes, and what is so once the link was settled.
use Rattle.std.specs.Prelude.{◌≡◌, ℕ, ◌<◌, List, ◌++◌, length, get_or, slice_set}
use Rattle.node_links.specs.Links.{Sending, Receiving, queued}
use Rattle.node_actor.specs.declared.actor.NodeActor.{NodeActor}

-- these two are the ends of one link
pub record AreEnds (outs : List Sending) (to : ℕ) (ins : List Receiving) (from : ℕ) : Type 0 where
  pub sends : to < length outs
  pub receives : from < length ins
  pub one_link : (out : Sending) (into : Receiving) → (get_or outs to out).link ≡ (get_or ins from into).link

-- frames went from the one end to the other and wait there: all that was pushed into the link
pub record IsSettled (out out' : Sending) (into into' : Receiving) : Type 0 where
  pub out_link : out'.link ≡ out.link
  pub in_link : into'.link ≡ into.link
  pub queued_same : queued out' ≡ queued out
  pub received : into'.received ≡ into.received
  pub in_order : into'.received ++ into'.waiting ≡ out'.pushed

-- so it is with these two ends, and every other is as it was
pub record AreSettledEnds (outs outs' : List Sending) (to : ℕ) (ins ins' : List Receiving) (from : ℕ) : Type 0 where
  pub out : Sending
  pub into : Receiving
  pub outs_are : outs' ≡ slice_set outs to out
  pub ins_are : ins' ≡ slice_set ins from into
  pub settled : (o : Sending) (i : Receiving) → IsSettled (get_or outs to o) out (get_or ins from i) into

-- all that was queued at the one end was received at the other, or waits there
abbrev pub HaveAll : List Sending → ℕ → List Receiving → ℕ → Type 0
HaveAll outs to ins from =
    (out : Sending) (into : Receiving) → (get_or ins from into).received ++ (get_or ins from into).waiting ≡ queued (get_or outs to out)

module _ {N D : Type 0} where
  -- an actor with another's ends of its links
  abbrev pub with_outs_of : NodeActor N D → NodeActor N D → NodeActor N D
  with_outs_of other actor = record actor { outs = other.outs }

  abbrev pub with_ins_of : NodeActor N D → NodeActor N D → NodeActor N D
  with_ins_of other actor = record actor { ins = other.ins }

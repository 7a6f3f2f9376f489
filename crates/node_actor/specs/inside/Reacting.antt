-- A frame that is pulled of a link, and what it makes of an actor.
use Rattle.std.specs.Prelude.{◌≡◌, ℕ, ◌<◌, Bool, true, false, List, [], ◌∷◌, ◌++◌, length, get_or, slice_set, None, Some}
use Rattle.net_model.specs.declared.model.NodeModel.{Ghosts as NodeRules}
use Rattle.node_links.specs.declared.frame.Frame.{Frame}
use Rattle.node_links.specs.Links.{Receiving}
use Rattle.spec_base.specs.declared.disk.Disk.{Ghosts as DiskRules}
use Rattle.node_actor.specs.Cores.{Received, KeepsDisk, IsFaulty}
use Rattle.node_actor.specs.declared.actor.NodeActor.{NodeActor}
use Rattle.node_actor.specs.declared.stopped.Stopped.TheVariants as stops
use Rattle.node_actor.specs.declared.taken.Taken.{Taken}
use Rattle.node_actor.specs.declared.taken.Taken.TheVariants as takes
use Rattle.node_actor.specs.Lanes.{links_of}

-- one frame more was pulled of the link from the node at a place
pub record IsPulled (before after : List Receiving) (place : ℕ) (frame : Frame) : Type 0 where
  pub old : Receiving
  pub new : Receiving
  pub within : place < length before
  pub there : get_or before place old ≡ old
  pub link : new.link ≡ old.link
  pub received : new.received ≡ old.received ++ frame ∷ []
  pub set : after ≡ slice_set before place new

abbrev pub is_input : Taken → Bool
is_input takes.Input = true
is_input takes.NoInput = false
is_input takes.Nothing = false

module _ {N D : Type 0} where
  -- what a frame that was pulled of the link from the node at a place makes of an actor that isn't stopped
  pub record Reacted (rules : NodeRules N) (disk : DiskRules D) (from : ℕ) (frame : Frame) (taken : Taken) (before after : NodeActor N D) : Type 0 where
    pub ins : after.ins.items ≡ before.ins.items
    pub outs : links_of after.outs.items ≡ links_of before.outs.items
    pub goes : after.stopped ≡ None → Received (is_input taken) rules disk from frame before.core after.core before.outs.items after.outs.items
    pub going : taken ≡ takes.Input → after.stopped ≡ None
    pub keeps : KeepsDisk disk before.core after.core
    pub faulty : after.stopped ≡ Some stops.Disk → IsFaulty disk before.core after.core

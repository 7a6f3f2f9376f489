-- Nodes at their seats, as a run begins, can be drained.
use Rattle.std.proofs.Common.{ℕ, List, [], ◌∷◌}
use Rattle.std.specs.List.{AllByRecursion}
use Rattle.spec_base.specs.declared.disk.Disk.{Ghosts as DiskRules}
use Rattle.msg_wire.specs.declared.config.Config.{Config}
use Rattle.net_model.specs.declared.model.NodeModel.{Ghosts as NodeRules}
use Rattle.net_model.specs.Names.{NodeId}
use Rattle.node_actor.specs.declared.actor.NodeActor.{NodeActor}
use Rattle.node_actor.specs.Actors.{CanGoOn}
use Rattle.node_seats.specs.Seats.{IsNew}
use Rattle.cluster_seats.specs.Seatings.{AreSitting}
use Rattle.cluster_drain.specs.Drains.{CanDrain}

module _ {N D : Type 0} (rules : NodeRules N) (disk : DiskRules D) where
  can_go_on : (actors : List (NodeActor N D)) → AllByRecursion (IsNew rules disk) actors → AllByRecursion (CanGoOn rules) actors
  can_go_on [] new = tt
  can_go_on (a ∷ actors) new = (λ calm. new.0.ready, can_go_on actors new.1)

  pub can_drain : (cfg : Config) (nodes : List NodeId) (counts : List ℕ) (actors : List (NodeActor N D)) → AreSitting rules disk cfg nodes counts actors
      → CanDrain rules actors
  can_drain cfg nodes counts actors sits = record { each = can_go_on actors sits.new; linked = sits.linked }

-- What a run needs as it begins, but for its vaults.
use Rattle.std.specs.Prelude.{◌≡◌, ℕ, ◌≤◌, List, [], length, map, Some, vec_capacity}
use Rattle.gate_vault.specs.declared.vault.Vault.{Vault}
use Rattle.gate_vault.specs.Vault.{disk_of}
use Rattle.spec_base.specs.declared.disk.Disk.{Ghosts as DiskRules}
use Rattle.link_rows.specs.Rows.{AreLinked, IsUnsent, OfEach, names_of_ins, names_of_outs}
use Rattle.view_cell.specs.declared.look.Look.{Look}
use Rattle.msg_wire.specs.declared.config.Config.{Config}
use Rattle.msg_wire.specs.declared.plan.Plan.{Plan}
use Rattle.msg_wire.specs.Names.nodes
use Rattle.msg_wire.specs.Nodes.{nodes_of}
use Rattle.net_model.specs.declared.model.NodeModel.{Ghosts as NodeRules}
use Rattle.net_model.specs.declared.viewed.View.{View}
use Rattle.world.specs.declared.any_node.AnyNode.{AnyNode}
use Rattle.world.specs.AnyNodes.{fresh_any, shows_any}
use Rattle.cluster_crew.specs.Ending.{IsRoomFor as HasEndRoom}
use Rattle.cluster_crew.specs.Marks.{no_marks, counts_in}
use Rattle.cluster_seats.specs.Blanks.{AreBlanks}
use Rattle.plan_crew.specs.Begins.{BelongToPlan, IsRoomFor as HasCrewRoom}
use Rattle.cluster_run.specs.declared.ready.Nodes.{Nodes}
use Rattle.cluster_run.specs.declared.ready.Rooms.{Rooms}
use Rattle.cluster_run.specs.declared.ready.Users.{Users}

-- before any mark
abbrev pub IsFirst : Look → Type 0
IsFirst look = counts_in look ≡ no_marks

abbrev pub view_in : Look → View
view_in look = record { applied = look.applied; confirmed = look.confirmed; shown = look.shown }

-- what a consumer shows before any step
pub record IsOpeningOf (cfg : Config) (consumer : ℕ) (look : Look) : Type 0 where
  pub first : IsFirst look
  pub shows : shows_any (fresh_any cfg (nodes.Consumer consumer)) ≡ Some (view_in look)

-- the nodes of a plan at their start, with links from each to each on which nothing was sent
pub record AreNodesOf (rules : NodeRules AnyNode) (plan : Plan) (all : Nodes) : Type 0 where
  pub are_blanks : AreBlanks rules plan.cfg plan.seed (nodes_of plan.cfg) all.blanks.items
  pub linked : AreLinked (length (nodes_of plan.cfg)) (map (λ row. names_of_outs row.items) all.outs.items) (map (λ row. names_of_ins row.items) all.ins.items)
  pub unsent : OfEach IsUnsent (map (λ row. row.items) all.outs.items)

-- whatever else takes part
abbrev pub AreUsersOf : {P : Type 0} → Plan → Users P → Type 0
AreUsersOf plan users = BelongToPlan plan users.desks.items users.takers.items users.publishers.items users.readers.items users.submitters.items

-- nothing is in them, and so many nodes, readers and submitters have room
pub record HaveRoom {D P : Type 0} (count readers submitters : ℕ) (rooms : Rooms D P) : Type 0 where
  pub no_actors : rooms.actors.items ≡ []
  pub no_journals : rooms.journals.items ≡ []
  pub no_disks : rooms.disks.items ≡ []
  pub actors : count ≤ vec_capacity rooms.actors
  pub journals : count ≤ vec_capacity rooms.journals
  pub disks : count ≤ vec_capacity rooms.disks
  pub crew : HasCrewRoom count rooms.crew
  pub end : HasEndRoom count readers submitters rooms.end

-- how often the disks of vaults had failed
abbrev pub counts_of : {D : Type 0} → DiskRules D → List (Vault D) → List ℕ
counts_of disk = map (λ (vault : Vault _). disk.faults (disk_of vault))

-- A node of a run at its seat: what stays of it, and what holds of it at each moment.
use Rattle.std.specs.Prelude.{◌≡◌, ℕ, ◌++◌, ◌≤◌, List, [], length, map, None, Some}
use Rattle.std.specs.List.{AllZip, AllByRecursion}
use Rattle.gate_vault.specs.Put.{FailedTwice}
use Rattle.link_faults.specs.Faults.{Holding}
use Rattle.link_rows.specs.Rows.{AreLinked, IsUnsent, entry_at}
use Rattle.node_links.specs.declared.frame.Frame.{Frame}
use Rattle.node_links.specs.Links.{LinkName, Sending, Receiving, queued}
use Rattle.spec_base.specs.declared.disk.Disk.{Ghosts as DiskRules}
use Rattle.msg_wire.specs.declared.config.Config.{Config}
use Rattle.net_model.specs.declared.model.NodeModel.{Ghosts as NodeRules}
use Rattle.net_model.specs.Journals.{OwnSteps}
use Rattle.net_model.specs.Names.{NodeId}
use Rattle.node_actor.specs.declared.actor.NodeActor.{NodeActor}
use Rattle.node_actor.specs.declared.stopped.Stopped.TheVariants as stops
use Rattle.node_actor.specs.Cores.{steps_of, IsReady, IsInStep}
use Rattle.node_actor.specs.Ins.{links_to, AreTaken}
use Rattle.node_actor.specs.Lanes.{links_of, lanes}
use Rattle.node_actor.specs.Stores.{disk_in, TellsItems}
use Rattle.frame_sources.specs.Frames.{CarrySteps}

-- what stays of a node from the begin of a run to its end
pub record Seat : Type 0 where
  pub cfg : Config
  pub name : NodeId
  pub outs : List LinkName  -- the links to all nodes, in their order
  pub ins : List LinkName  -- the links from all nodes
  pub count : ℕ  -- how often its disk had failed as the run began

abbrev pub received_of : Receiving → List Frame
received_of into = into.received

module _ {N D : Type 0} where
  -- its steps are those of its table, each message that they took came in a frame that it received, and its links carry what they sent
  pub record IsInOrder (rules : NodeRules N) (disk : DiskRules D) (actor : NodeActor N D) : Type 0 where
    pub ready : IsReady rules actor.core
    pub in_step : IsInStep rules disk actor.core
    pub taken : AreTaken actor.core.cfg actor.ins.items (steps_of actor.core)
    pub carry : CarrySteps (steps_of actor.core) (lanes actor.outs.items actor.core.faults.items)
    pub each_lane : length (lanes actor.outs.items actor.core.faults.items) ≡ length actor.outs.items

  -- an actor at its seat, whether it goes on or was stopped
  pub record IsSeated (rules : NodeRules N) (disk : DiskRules D) (seat : Seat) (actor : NodeActor N D) : Type 0 where
    pub cfg : actor.core.cfg ≡ seat.cfg
    pub name : actor.core.name ≡ seat.name
    pub outs : links_of actor.outs.items ≡ seat.outs
    pub ins : links_to actor.ins.items ≡ seat.ins
    pub going : actor.stopped ≡ None → IsInOrder rules disk actor
    pub tells : TellsItems (disk.seen (disk_in actor.core.store))
    pub no_fall : seat.count ≤ disk.faults (disk_in actor.core.store)
    pub faulty : actor.stopped ≡ Some stops.Disk
        → FailedTwice seat.count (disk.faults (disk_in actor.core.store)) (disk.in_a_row (disk_in actor.core.store))

  -- an actor as a run begins: it took no step, nothing was sent on its links, and nothing is held of them
  pub record IsNew (rules : NodeRules N) (disk : DiskRules D) (actor : NodeActor N D) : Type 0 where
    pub going : actor.stopped ≡ None
    pub ready : IsReady rules actor.core
    pub in_step : IsInStep rules disk actor.core
    pub none : steps_of actor.core ≡ []
    pub unsent : AllByRecursion IsUnsent actor.outs.items
    pub unheld : AllByRecursion (λ (h : Holding). h.held ≡ None) actor.core.faults.items
    pub each_faults : length actor.core.faults.items ≡ length actor.outs.items

  -- the seat of such an actor, where its disk had failed so often
  abbrev pub seat_of : ℕ → NodeActor N D → Seat
  seat_of count actor = record {
    cfg = actor.core.cfg;
    name = actor.core.name;
    outs = links_of actor.outs.items;
    ins = links_to actor.ins.items;
    count = count;
  }

  -- an actor as it was, but for which frames wait at the ends of its links
  pub record WaitsElsewhere (before after : NodeActor N D) : Type 0 where
    pub core : after.core ≡ before.core
    pub stopped : after.stopped ≡ before.stopped
    pub outs : links_of after.outs.items ≡ links_of before.outs.items
    pub queued : map queued after.outs.items ≡ map queued before.outs.items
    pub ins : links_to after.ins.items ≡ links_to before.ins.items
    pub received : map received_of after.ins.items ≡ map received_of before.ins.items

  -- what one moment has of an actor, a later one has: where it was at a seat, it is
  abbrev pub StaysSeated : NodeRules N → DiskRules D → NodeActor N D → NodeActor N D → Type 0
  StaysSeated rules disk before after = (seat : Seat) → IsSeated rules disk seat before → IsSeated rules disk seat after

  -- ---- all nodes of a run

  abbrev pub AreSeated : NodeRules N → DiskRules D → List Seat → List (NodeActor N D) → Type 0
  AreSeated rules disk = AllZip (IsSeated rules disk)

  abbrev pub AreGoing : List (NodeActor N D) → Type 0
  AreGoing = AllByRecursion (λ (actor : NodeActor N D). actor.stopped ≡ None)

  abbrev pub outs_of : List (NodeActor N D) → List (List Sending)
  outs_of = map (λ (actor : NodeActor N D). actor.outs.items)

  abbrev pub ins_of : List (NodeActor N D) → List (List Receiving)
  ins_of = map (λ (actor : NodeActor N D). actor.ins.items)

  abbrev pub journals_of : List (NodeActor N D) → List OwnSteps
  journals_of = map (λ (actor : NodeActor N D). actor.core.journal)

  -- on each link what was received, and what waits there, is all that was pushed into it
  abbrev pub AreSettled : List (NodeActor N D) → Type 0
  AreSettled actors =
      (from to : ℕ) (out : Sending) (into : Receiving) → entry_at (outs_of actors) from to ≡ Some out → entry_at (ins_of actors) to from ≡ Some into
      → into.received ++ into.waiting ≡ out.pushed

-- the links go from each node to each, and all nodes are of one cluster
pub record AreSeats (cfg : Config) (seats : List Seat) : Type 0 where
  pub cfgs : AllByRecursion (λ (seat : Seat). seat.cfg ≡ cfg) seats
  pub linked : AreLinked (length seats) (map (λ (seat : Seat). seat.outs) seats) (map (λ (seat : Seat). seat.ins) seats)

-- A node as it takes turns, and what is between two moments of it.
use Rattle.std.specs.Prelude.{◌≡◌, ◌≤◌, List, None, Some}
use Rattle.net_model.specs.declared.journal.Stamped.{Stamped}
use Rattle.net_model.specs.declared.model.NodeModel.{Ghosts as NodeRules}
use Rattle.spec_base.specs.declared.disk.Disk.{Ghosts as DiskRules}
use Rattle.node_actor.specs.declared.actor.NodeActor.{NodeActor}
use Rattle.node_actor.specs.declared.stopped.Stopped.{Stopped}
use Rattle.node_actor.specs.declared.stopped.Stopped.TheVariants as stops
use Rattle.node_actor.specs.Cores.{steps_of, IsReady, IsInStep, Turned, FaultsEnded, IsFaulty}
use Rattle.node_actor.specs.declared.node_core.NodeCore.{NodeCore}
use Rattle.node_actor.specs.Stores.{disk_in, TellsItems}
use Rattle.node_actor.specs.Lanes.{links_of}
use Rattle.node_actor.specs.Ins.{links_to, AreTaken}

module _ {N D : Type 0} where
  -- unless it was stopped, it can take a step
  abbrev pub CanGoOn : NodeRules N → NodeActor N D → Type 0
  CanGoOn rules actor = actor.stopped ≡ None → IsReady rules actor.core

  -- its core is in step, and each message that it took came on the link from its sender, with a smaller stamp
  pub record IsSound (rules : NodeRules N) (disk : DiskRules D) (actor : NodeActor N D) : Type 0 where
    pub in_step : IsInStep rules disk actor.core
    pub taken : AreTaken actor.core.cfg actor.ins.items (steps_of actor.core)

  -- it took these steps, and what it took came so
  pub record WentOn (rules : NodeRules N) (disk : DiskRules D) (before after : NodeActor N D) : Type 0 where
    pub more : List Stamped
    pub turned : Turned rules disk more before.core after.core before.outs.items after.outs.items
    pub taken : AreTaken before.core.cfg before.ins.items (steps_of before.core) → AreTaken after.core.cfg after.ins.items (steps_of after.core)

  -- in every case: the node stays, its disk's count of faults doesn't fall, and of a core in step the disk tells a file of items
  pub record KeepsItems (rules : NodeRules N) (disk : DiskRules D) (before after : NodeCore N D) : Type 0 where
    pub cfg : after.cfg ≡ before.cfg
    pub name : after.name ≡ before.name
    pub no_fall : disk.faults (disk_in before.store) ≤ disk.faults (disk_in after.store)
    pub tells : IsInStep rules disk before → TellsItems (disk.seen (disk_in after.store))

  -- from one moment to a later one: where it isn't stopped it went on, and once it is stopped it stays as it is
  pub record Moved (rules : NodeRules N) (disk : DiskRules D) (before after : NodeActor N D) : Type 0 where
    pub goes : after.stopped ≡ None → WentOn rules disk before after
    pub was : after.stopped ≡ None → before.stopped ≡ None
    pub rests : (why : Stopped) → before.stopped ≡ Some why → after ≡ before
    pub outs : links_of after.outs.items ≡ links_of before.outs.items
    pub ins : links_to after.ins.items ≡ links_to before.ins.items
    pub keeps : KeepsItems rules disk before.core after.core
    pub faulty : before.stopped ≡ None → after.stopped ≡ Some stops.Disk → IsFaulty disk before.core after.core

  -- the faults of its links have ended, unless it was stopped, or is now, for want of memory
  pub record EndedFaults (rules : NodeRules N) (disk : DiskRules D) (before after : NodeActor N D) : Type 0 where
    pub goes : after.stopped ≡ None → FaultsEnded rules disk before.core after.core before.outs.items after.outs.items
    pub was : after.stopped ≡ None → before.stopped ≡ None
    pub rests : (why : Stopped) → before.stopped ≡ Some why → after ≡ before
    pub outs : links_of after.outs.items ≡ links_of before.outs.items
    pub ins : after.ins ≡ before.ins
    pub cfg : after.core.cfg ≡ before.core.cfg
    pub name : after.core.name ≡ before.core.name
    pub store : after.core.store ≡ before.core.store
    pub memory : (why : Stopped) → before.stopped ≡ None → after.stopped ≡ Some why → why ≡ stops.Memory

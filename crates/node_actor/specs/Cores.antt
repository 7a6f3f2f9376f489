-- A node's core, and what a step makes of it.
use Rattle.std.specs.Prelude.{◌≡◌, ◌⊎◌, ℕ, ◌≤◌, ◌<◌, Bool, true, false, List, [], ◌∷◌, ◌++◌, map, None, Result, IsErrOf}
use Rattle.std.specs.List.{AllByRecursion}
use Rattle.gate_vault.specs.Put.{FailedTwice}
use Rattle.node_links.specs.declared.frame.Frame.{Frame}
use Rattle.node_links.specs.Links.{Sending}
use Rattle.spec_base.specs.declared.disk.Disk.{Ghosts as DiskRules}
use Rattle.msg_wire.specs.declared.config.Config.{Config}
use Rattle.msg_wire.specs.Messages.{message_spelling}
use Rattle.msg_wire.specs.Steps.{AreValidMessages}
use Rattle.msg_wire.specs.Valid.{IsValidConfig, IsNodeOf, IsValidMessage}
use Rattle.net_model.specs.declared.journal.Stamped.{Stamped}
use Rattle.net_model.specs.declared.model.NodeModel.{Ghosts as NodeRules}
use Rattle.net_model.specs.Merges.{past_in}
use Rattle.net_model.specs.Names.{NodeId, Message, Item, Event, Step}
use Rattle.net_model.specs.Names.events
use Rattle.net_model.specs.Pasts.{Past, Throughout}
use Rattle.net_model.specs.Tables.{state_of}
use Rattle.node_actor.specs.declared.node_core.NodeCore.{NodeCore}
use Rattle.node_actor.specs.declared.stopped.Stopped.{Stopped}
use Rattle.node_actor.specs.declared.store.Store.{Store}
use Rattle.node_actor.specs.declared.stopped.Stopped.TheVariants as stops
use Rattle.node_order.specs.Places.{rank_of}
use Rattle.node_actor.specs.Chunks.{Chunks, chunk_of, chunks_of}
use Rattle.node_actor.specs.Lanes.{links_of, lanes, released, send_steps}
use Rattle.node_actor.specs.Steps.{table_at, IsOwnStep}
use Rattle.node_actor.specs.Stores.{disk_in, KeepsChunks, TellsItems}

-- a step as it stands in a journal
abbrev pub noted : NodeId → Event → ℕ → Step → Stamped
noted node event stamp step = record { stamp = stamp; entry = record { node = node; event = event; sends = step.sends; marks = step.marks } }

-- a message from the node at a place to this one
pub record IsBetween (cfg : Config) (name : NodeId) (from : ℕ) (message : Message) : Type 0 where
  pub to : message.to ≡ name
  pub sender : IsNodeOf cfg message.from
  pub place : rank_of cfg message.from ≡ from

-- bytes from the link from that node spell such a message
pub record IsReadFrom (cfg : Config) (name : NodeId) (from : ℕ) (bytes : List ℕ) (message : Message) : Type 0 where
  pub between : IsBetween cfg name from message
  pub valid : IsValidMessage message
  pub spelled : bytes ≡ message_spelling message

module _ {N D : Type 0} where
  -- the steps that a core wrote of its node, the oldest first
  abbrev pub steps_of : NodeCore N D → List Stamped
  steps_of core = core.journal.steps

  abbrev pub past_at : NodeCore N D → Past
  past_at core = past_in core.journal.steps

  -- it can take a step
  pub record IsReady (rules : NodeRules N) (core : NodeCore N D) : Type 0 where
    pub valid : IsValidConfig core.cfg
    pub here : IsNodeOf core.cfg core.name
    pub own : core.journal.node ≡ core.name
    pub unspent : rules.is_spent core.node ≡ false

  -- a node's steps follow its table; its state is what they leave; its vault, whose disk tells its bytes, keeps what they stored
  pub record HasCome (rules : NodeRules N) (disk : DiskRules D) (cfg : Config) (name : NodeId) (past : Past) (node : N) (store : Store D) : Type 0 where
    pub own : Throughout (IsOwnStep rules cfg) past
    pub state : node ≡ state_of (table_at rules cfg name) name past
    pub stored : KeepsChunks disk store (chunks_of (table_at rules cfg name) name past)

  abbrev pub IsInStep : NodeRules N → DiskRules D → NodeCore N D → Type 0
  IsInStep rules disk core = HasCome rules disk core.cfg core.name (past_at core) core.node core.store

  -- what a step would store
  abbrev pub stable_of : NodeRules N → NodeCore N D → Event → List Item
  stable_of rules core event = (rules.gives core.node event).stable

  -- from one moment to a later one a core took these steps, and sent what they send
  pub record Turned (rules : NodeRules N) (disk : DiskRules D) (more : List Stamped) (before after : NodeCore N D) (outs outs' : List Sending) : Type 0 where
    pub ready : IsReady rules after
    pub cfg : after.cfg ≡ before.cfg
    pub name : after.name ≡ before.name
    pub plan : after.plan ≡ before.plan
    pub steps : after.journal.steps ≡ before.journal.steps ++ more
    pub links : links_of outs' ≡ links_of outs
    pub sends : lanes outs' after.faults.items ≡ send_steps before.cfg before.plan more (lanes outs before.faults.items)
    pub valid : AllByRecursion (λ (x : Stamped). AreValidMessages x.entry.sends) more
    pub in_step : IsInStep rules disk before → IsInStep rules disk after

  -- it took one step, of this event, with a stamp above this one
  pub record TookOne (rules : NodeRules N) (disk : DiskRules D) (event : Event) (above : ℕ) (before after : NodeCore N D)
      (outs outs' : List Sending) : Type 0 where
    pub step : Stamped
    pub event_is : step.entry.event ≡ event
    pub above_is : above < step.stamp
    pub turned : Turned rules disk (step ∷ []) before after outs outs'

  -- it took the step of a restart, after which it is what its vault kept
  abbrev pub Restarted : NodeRules N → DiskRules D → NodeCore N D → NodeCore N D → List Sending → List Sending → Type 0
  Restarted rules disk before after outs outs' = TookOne rules disk events.Restart 0 before after outs outs'

  -- the faults of the links have ended: what was held is queued, and no message is lost any more
  pub record FaultsEnded (rules : NodeRules N) (disk : DiskRules D) (before after : NodeCore N D) (outs outs' : List Sending) : Type 0 where
    pub ready : IsReady rules after
    pub cfg : after.cfg ≡ before.cfg
    pub name : after.name ≡ before.name
    pub plan : after.plan ≡ None
    pub journal : after.journal ≡ before.journal
    pub sends : lanes outs' after.faults.items ≡ map released (lanes outs before.faults.items)
    pub in_step : IsInStep rules disk before → IsInStep rules disk after

  -- in every case: the node stays, its disk's count of faults doesn't fall, and what the disk tells stands for items
  pub record KeepsDisk (disk : DiskRules D) (before after : NodeCore N D) : Type 0 where
    pub cfg : after.cfg ≡ before.cfg
    pub name : after.name ≡ before.name
    pub no_fall : disk.faults (disk_in before.store) ≤ disk.faults (disk_in after.store)
    pub tells : (chunks : Chunks) → KeepsChunks disk before.store chunks → TellsItems (disk.seen (disk_in after.store))

  -- its disk failed twice, one after the other
  abbrev pub IsFaulty : DiskRules D → NodeCore N D → NodeCore N D → Type 0
  IsFaulty disk before after = FailedTwice (disk.faults (disk_in before.store)) (disk.faults (disk_in after.store)) (disk.in_a_row (disk_in after.store))

  -- nothing is queued unless what the step stores is stored
  abbrev pub StoresFirst : DiskRules D → List Item → NodeCore N D → NodeCore N D → List Sending → List Sending → Type 0
  StoresFirst disk stable before after outs outs' =
      (outs' ≡ outs) ⊎ ((chunks : Chunks) → KeepsChunks disk before.store chunks → KeepsChunks disk after.store (chunks ++ chunk_of stable))

  -- what holds of a step that stores these items, whatever comes of it
  pub record StepsSafely {T : Type 0} (disk : DiskRules D) (stable : List Item) (result : Result T Stopped) (before after : NodeCore N D)
      (outs outs' : List Sending) : Type 0 where
    pub links : links_of outs' ≡ links_of outs
    pub keeps : KeepsDisk disk before after
    pub first : StoresFirst disk stable before after outs outs'
    pub faulty : IsErrOf result stops.Disk → IsFaulty disk before after
    pub nothing : IsErrOf result stops.Disk → (outs' ≡ outs) × (after.journal ≡ before.journal)

  -- a step of the message that a frame brings; none, and nothing changed, where it brings none
  abbrev pub Received : Bool → NodeRules N → DiskRules D → ℕ → Frame → NodeCore N D → NodeCore N D → List Sending → List Sending → Type 0
  Received true rules disk from frame before after outs outs' =
      (message : Message) × IsReadFrom before.cfg before.name from frame.bytes message × TookOne rules disk
      (events.Deliver message) frame.stamp before after outs outs'
  Received false rules disk from frame before after outs outs' =
      (after ≡ before) × (outs' ≡ outs) × ((message : Message) → IsReadFrom before.cfg before.name from frame.bytes message → ⊥)

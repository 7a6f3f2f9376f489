-- The end of a step, and a restart once its items are read.
use Rattle.std.specs.Prelude.{◌≡◌, ℕ, List, [], ◌∷◌, ◌++◌}
use Rattle.net_model.specs.declared.model.NodeModel.{Ghosts as NodeRules}
use Rattle.net_model.specs.Names.{Event, Item}
use Rattle.net_model.specs.Tables.{items_of}
use Rattle.node_actor.specs.Chunks.{Chunks, chunk_of, chunks_of}
use Rattle.node_actor.specs.Cores.{noted, past_at, IsInStep, Restarted}
use Rattle.node_actor.specs.declared.node_core.NodeCore.{NodeCore}
use Rattle.node_actor.specs.declared.store.Store.{Store}
use Rattle.node_actor.specs.Lanes.{lanes, send_messages}
use Rattle.node_actor.specs.Steps.{table_at}
use Rattle.node_actor.specs.Stores.{KeepsChunks}
use Rattle.node_links.specs.Links.{Sending}
use Rattle.spec_base.specs.declared.disk.Disk.{Ghosts as DiskRules}

module _ {N D : Type 0} where
  abbrev pub with_store : NodeCore N D → Store D → NodeCore N D
  with_store core store = record core { store = store }

  -- that step, where these items were read; whatever the store was before, if it kept them and the one that is there now does
  abbrev pub RestartedBy : NodeRules N → DiskRules D → List Item → NodeCore N D → NodeCore N D → List Sending → List Sending → Type 0
  RestartedBy rules disk stored before after outs outs' =
      (store : Store D)
      → (IsInStep rules disk (with_store before store)
      → (stored ≡ items_of (table_at rules before.cfg before.name) before.name (past_at before))
      × KeepsChunks disk before.store (chunks_of (table_at rules before.cfg before.name) before.name (past_at before)))
      → Restarted rules disk (with_store before store) after outs outs'

  -- what the end of a step does, once its node gave it: it is stored, sent and noted
  pub record Finished (disk : DiskRules D) (event : Event) (stamp : ℕ) (before after : NodeCore N D) (outs outs' : List Sending) : Type 0 where
    pub cfg : after.cfg ≡ before.cfg
    pub name : after.name ≡ before.name
    pub node : after.node ≡ before.node
    pub plan : after.plan ≡ before.plan
    pub journal : after.journal ≡ record {
      node = before.journal.node;
      steps = before.journal.steps ++ noted before.journal.node event stamp before.step ∷ [];
    }
    pub sends : lanes outs' after.faults.items ≡ send_messages before.cfg before.plan stamp before.step.sends (lanes outs before.faults.items)
    pub stored : (chunks : Chunks) → KeepsChunks disk before.store chunks → KeepsChunks disk after.store (chunks ++ chunk_of before.step.stable)

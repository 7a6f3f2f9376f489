-- A step of a node's table leaves a node that has come one step further.
use Rattle.std.proofs.Common.{◌≡◌, ◌⊎◌, inl, inr, ℕ, ◌+◌, ◌-◌, ◌^◌, ◌<◌, ◌≤◌, true, false, List, [], ◌∷◌, ◌++◌, Result, refl, sym, ap, ◌∙◌, subst, arith}
use Rattle.node_links.specs.Links.{Sending}
use Rattle.spec_base.specs.declared.disk.Disk.{Ghosts as DiskRules}
use Rattle.msg_wire.specs.declared.config.Config.{Config}
use Rattle.msg_wire.specs.Nodes.{same_node}
use Rattle.msg_wire.specs.Steps.{AreValidMessages}
use Rattle.msg_wire.specs.Valid.{IsValidConfig, IsNodeOf}
use Rattle.net_model.specs.declared.history.HistoryEntry.{HistoryEntry}
use Rattle.net_model.specs.declared.model.NodeModel.{Ghosts as NodeRules}
use Rattle.net_model.specs.Journals.{OwnSteps}
use Rattle.net_model.specs.Merges.{past_in}
use Rattle.net_model.specs.Names.{NodeId, Item, Event, Step}
use Rattle.net_model.specs.Names.events
use Rattle.net_model.specs.Pasts.{Past, is_restart}
use Rattle.net_model.specs.Tables.{StepTable, Progress, state_after, step_if, progress_of, items_of, state_of}
use Rattle.net_model.proofs.Histories.{past_push}
use Rattle.net_model.proofs.SameNodes.{node_itself}
use Rattle.node_actor.specs.declared.node_core.NodeCore.{NodeCore}
use Rattle.node_actor.specs.declared.stopped.Stopped.{Stopped}
use Rattle.node_actor.specs.declared.store.Store.{Store}
use Rattle.node_actor.specs.Chunks.{Chunks, chunk_of, chunk_if, chunks_of, all_items}
use Rattle.node_actor.specs.Cores.{noted, past_at, stable_of, IsReady, HasCome, IsInStep, TookOne, StoresFirst, StepsSafely, Restarted}
use Rattle.node_actor.specs.inside.Finishing.{RestartedBy, with_store}
use Rattle.node_actor.specs.Lanes.{lanes, links_of, send_messages}
use Rattle.node_actor.specs.Steps.{table_at, CanTake}
use Rattle.node_actor.specs.Stores.{KeepsChunks}
use Rattle.gate_vault.specs.Put.{FailedTwice}
use Rattle.node_actor.proofs.Loading.{stored_is}

-- any event but a restart leaves what the table says
pub leaves_after : {S : Type 0} (table : StepTable S) (event : Event) (p : Progress S) → is_restart event ≡ false
    → state_after table event p ≡ table.leaves p.state event
leaves_after table events.Restart p is = absurd cc
leaves_after table (events.Submit by body) p is = refl
leaves_after table (events.Deliver message) p is = refl
leaves_after table events.Tick p is = refl
leaves_after table (events.Command command) p is = refl

-- a journal's entry of a node
abbrev pub entry : NodeId → Event → Step → HistoryEntry
entry name event step = record { node = name; event = event; sends = step.sends; marks = step.marks }

abbrev pub journal_after : {N D : Type 0} → NodeCore N D → Event → ℕ → Step → OwnSteps
journal_after core event stamp step = record { node = core.journal.node; steps = core.journal.steps ++ noted core.journal.node event stamp step ∷ [] }

-- a disk failed twice since an earlier moment too
pub failed_since : (a b now row : ℕ) → a ≤ b → FailedTwice b now row → FailedTwice a now row
failed_since a b now row below twice = record { rose = rose_from twice.rose; in_a_row = twice.in_a_row } where
  rose_from : (b + 2 ≤ now) ⊎ (2 ^ 64 - 1 ≤ now) → (a + 2 ≤ now) ⊎ (2 ^ 64 - 1 ≤ now)
  rose_from (inl rose) = inl (omega arith)
  rose_from (inr end) = inr end

module _ {N D : Type 0} (rules : NodeRules N) (disk : DiskRules D) where
  -- what a node was, and its stored items, at some moment
  abbrev pub progress : Config → NodeId → Past → N → Progress N
  progress cfg name past node = record { stored = items_of (table_at rules cfg name) name past; state = node }

  pub one_more : (cfg : Config) (name : NodeId) (past : Past) (node node' : N) (store store' : Store D) (event : Event)
      → HasCome rules disk cfg name past node store
      → IsNodeOf cfg name → CanTake name event → node' ≡ state_after (table_at rules cfg name) event (progress cfg name past node)
      → KeepsChunks disk store' (chunks_of (table_at rules cfg name) name past ++ chunk_of (rules.gives node event).stable)
      → HasCome rules disk cfg name (entry name event (rules.gives node event) ∷ past) node' store'
  one_more cfg name past node node' store store' event at here takes leaves keeps =
      let table = table_at rules cfg name in
      let itself : true ≡ same_node name name = sym (node_itself name) in
      record {
        own = (
          record {
            within = here;
            takes = takes;
            step = record {
              sends = ap (λ n. (rules.gives n event).sends) at.state;
              shows = ap (λ n. (rules.gives n event).marks) at.state;
            };
          },
          at.own,
        );
        state = leaves ∙ ap (λ n. state_after table event (progress cfg name past n)) at.state
            ∙ ap (λ b. (step_if b table event (progress_of table name past)).state) itself;
        stored = subst (KeepsChunks disk store')
            (ap (λ n. chunks_of table name past ++ chunk_of (rules.gives n event).stable) at.state
            ∙ ap (λ b. chunks_of table name past ++ chunk_if b table (state_of table name past) event) itself) keeps;
      }

  -- a core whose node made a step
  abbrev pub with_step : NodeCore N D → N → Step → NodeCore N D
  with_step core node step = record core { node = node; step = step }

  -- the parts of what the end of a step does, and what it means for the node
  pub took_one : (event : Event) (above stamp : ℕ) (before after : NodeCore N D) (node : N) (step : Step) (outs outs' : List Sending)
      → IsReady rules before → CanTake before.name event → above < stamp → step ≡ rules.gives before.node event → AreValidMessages step.sends
      → rules.is_spent node ≡ false → links_of outs' ≡ links_of outs → after.cfg ≡ before.cfg → after.name ≡ before.name → after.node ≡ node
      → after.plan ≡ before.plan
      → after.journal ≡ journal_after before event stamp step
      → lanes outs' after.faults.items ≡ send_messages before.cfg before.plan stamp step.sends (lanes outs before.faults.items)
      → (IsInStep rules disk before → node ≡ state_after (table_at rules before.cfg before.name) event (progress before.cfg before.name
      (past_at before) before.node))
      → (IsInStep rules disk before
      → KeepsChunks disk after.store (chunks_of (table_at rules before.cfg before.name) before.name (past_at before) ++ chunk_of step.stable))
      → TookOne rules disk event above before after outs outs'
  took_one event above stamp before after node step outs outs' ready takes over gives valid unspent links cfg_is name_is is_node plan_is journal sends leaves
      keeps =
      let x = noted before.journal.node event stamp step in
      let node_is : after.journal.node ≡ before.journal.node = ap (λ (j : OwnSteps). j.node) journal in
      let steps_are : after.journal.steps ≡ before.journal.steps ++ x ∷ [] = ap (λ (j : OwnSteps). j.steps) journal in
      let past_is : past_at after ≡ entry before.name event (rules.gives before.node event) ∷ past_at before =
      ap past_in steps_are ∙ past_push before.journal.steps x
      ∙ ap (λ n. entry n event step ∷ past_at before) ready.own ∙ ap (λ s. entry before.name event s ∷ past_at before) gives in
      let come : IsInStep rules disk before → HasCome rules disk before.cfg before.name (entry before.name event
      (rules.gives before.node event) ∷ past_at before) after.node after.store =
      λ at. one_more before.cfg before.name (past_at before) before.node after.node before.store after.store event at ready.here takes (is_node ∙ leaves at)
      (subst (λ (s : Step). KeepsChunks disk after.store (chunks_of (table_at rules before.cfg before.name) before.name
      (past_at before) ++ chunk_of s.stable)) gives (keeps at)) in
      record {
        step = x;
        event_is = refl;
        above_is = over;
        turned = record {
          ready = record {
            valid = subst IsValidConfig (sym cfg_is) ready.valid;
            here = subst (λ c. IsNodeOf c after.name) (sym cfg_is) (subst (IsNodeOf before.cfg) (sym name_is) ready.here);
            own = node_is ∙ ready.own ∙ sym name_is;
            unspent = ap rules.is_spent is_node ∙ unspent;
          };
          cfg = cfg_is;
          name = name_is;
          plan = plan_is;
          steps = steps_are;
          links = links;
          sends = sends;
          valid = (valid, tt);
          in_step = λ at.
              subst (λ c. HasCome rules disk c after.name (past_at after) after.node after.store) (sym cfg_is)
              (subst (λ n. HasCome rules disk before.cfg n (past_at after) after.node after.store) (sym name_is)
              (subst (λ p. HasCome rules disk before.cfg before.name p after.node after.store) (sym past_is) (come at)));
        };
      }

  -- what holds of the end of a step holds of the step
  pub safe_step : {T : Type 0} (event : Event) (result : Result T Stopped) (before after : NodeCore N D) (node : N) (step : Step) (outs outs' : List Sending)
      → step ≡ rules.gives before.node event → StepsSafely disk step.stable result (with_step before node step) after outs outs'
      → StepsSafely disk (stable_of rules before event) result before after outs outs'
  safe_step event result before after node step outs outs' gives safely =
      let same : step.stable ≡ stable_of rules before event = ap (λ (s : Step). s.stable) gives in
      record {
        links = safely.links;
        keeps = record { cfg = safely.keeps.cfg; name = safely.keeps.name; no_fall = safely.keeps.no_fall; tells = safely.keeps.tells };
        first = subst (λ stable. StoresFirst disk stable before after outs outs') same safely.first;
        faulty = safely.faulty;
        nothing = safely.nothing;
      }

  -- ---- restarts

  abbrev pub AreRead : List Item → Store D → Store D → Type 0
  AreRead items before after = (chunks : Chunks) → KeepsChunks disk before chunks → (items ≡ all_items chunks) × KeepsChunks disk after chunks

  restarted_on : (core : NodeCore N D) (store : Store D) (after : NodeCore N D) (items : List Item) (outs outs' : List Sending) → AreRead items core.store store
      → RestartedBy rules disk items (with_store core store) after outs outs' → Restarted rules disk core after outs outs'
  restarted_on core store after items outs outs' reads by =
      let table = table_at rules core.cfg core.name in
      by core.store
      (λ at.
      let read = reads (chunks_of table core.name (past_at core)) at.stored in
      (read.0 ∙ sym (stored_is table core.name (past_at core)), read.1))

  pub restarted : (core loaded after : NodeCore N D) (items : List Item) (outs outs' : List Sending) → loaded ≡ with_store core loaded.store
      → AreRead items core.store loaded.store → RestartedBy rules disk items loaded after outs outs' → Restarted rules disk core after outs outs'
  restarted core loaded after items outs outs' same reads by =
      restarted_on core loaded.store after items outs outs' reads (subst (λ c. RestartedBy rules disk items c after outs outs') same by)

-- What a replica told of its log is true of it: as it is sent by the table of replicas, and later since logs grow.
use Rattle.std.proofs.Common.{◌∙◌, List, ◌∷◌, sym, ap, subst}
use Rattle.std.specs.Prelude.{IsTrue}
use Rattle.msg_wire.specs.Nodes.{is_replica}
use Rattle.msg_wire.specs.Valid.{IsValidConfig}
use Rattle.net_model.specs.Pasts.{Past}
use Rattle.node_rules.proofs.Lists.{all_weaken}
use Rattle.shard_node.specs.Messages.{IsTrueOf}
use Rattle.shard_node.proofs.Messages.{messages_are_true}
use Rattle.runs.specs.Names.{NodeId, Config, Record, Message, What, HistoryEntry}
use Rattle.runs.specs.Names.nodes
use Rattle.runs.specs.Names.whats
use Rattle.runs.specs.Known.{log_at}
use Rattle.runs.specs.Marks.{IsPrefix, log_by}
use Rattle.runs.proofs.SameNodes.{node_itself}
use Rattle.safety_frame.specs.EveryRun.{OfEveryRun}
use Rattle.safety_frame.specs.Replicates.{LogTells, LogsTell, ReplicateTells, ReplicatesTell}
use Rattle.safety_frame.proofs.NodeKinds.{after, stored, replicas}
use Rattle.safety_frame.proofs.Pasts.{own_state, of_sequencer, of_client, of_consumer, log_grows}
use Rattle.safety_frame.proofs.Lists.{all_true, length_stays, index_stays}
use Rattle.safety_frame.proofs.Senders.{SendsKeep, every_sent}
use Rattle.safety_frame.proofs.StableItems.{log_is}

-- ---- it stays true

true_later : (log longer : List Record) (what : What) → IsPrefix log longer → IsTrueOf log what → IsTrueOf longer what
true_later log longer (whats.Report len) grown was = length_stays log longer len grown was
true_later log longer (whats.Replicated len) grown was = length_stays log longer len grown was
true_later log longer (whats.Replicate local rec) grown was = index_stays log longer local rec grown was
true_later log longer (whats.Deliver local rec) grown was = index_stays log longer local rec grown was
true_later log longer _ grown was = tt

stays : (cfg : Config) (e : HistoryEntry) (past : Past) (from : NodeId) (what : What) → LogTells cfg past from what → LogTells cfg (e ∷ past) from what
stays cfg e past (nodes.Shard shard side) what was =
    true_later (log_at cfg shard side past) (log_at cfg shard side (e ∷ past)) what (log_grows cfg shard side e past) was
stays cfg e past _ what was = tt

-- ---- as it is sent

told : (cfg : Config) (past : Past) (node : NodeId) (what : What) → IsTrue (is_replica node) → IsTrueOf (log_by (stored replicas cfg node past)) what
    → LogTells cfg past node what
told cfg past (nodes.Shard shard side) what one is = is
told cfg past _ what one is = tt

module _ (cfg : Config) (valid : IsValidConfig cfg) where
  Tells : Past → NodeId → NodeId → What → Type 0
  Tells past from to what = LogTells cfg past from what

  replicas_keep : SendsKeep cfg valid replicas Tells
  unfolding Tells
  replicas_keep e past run one before =
      let n = after replicas cfg e.node past in
      let log =
      ap (λ s. s.own.log) (sym (own_state replicas cfg e.node e past valid run (node_itself e.node))) ∙ log_is cfg valid
      (e ∷ past) run e.node one run.0.within in
      all_weaken (λ (m : Message). IsTrueOf (replicas.step n e.event).state.own.log m.what) (λ (m : Message). LogTells cfg (e ∷ past) e.node m.what)
      (replicas.step n e.event).sends
      (λ m is. told cfg (e ∷ past) e.node m.what one (subst (λ l. IsTrueOf l m.what) log is)) (messages_are_true n e.event)

pub logs_tell : OfEveryRun LogsTell
unfolding Tells
logs_tell cfg past valid run m =
    every_sent cfg valid (Tells cfg valid)
    (record {
      stays = λ e past m run there was. stays cfg e past m.from m.what was;
      at_sequencers = λ e past run one before. all_true _ _ (λ m. of_sequencer (λ node. LogTells cfg (e ∷ past) node m.what) (λ n. tt) e.node one);
      at_replicas = replicas_keep cfg valid;
      at_clients = λ e past run one before. all_true _ _ (λ m. of_client (λ node. LogTells cfg (e ∷ past) node m.what) (λ n. tt) e.node one);
      at_consumers = λ e past run one before. all_true _ _ (λ m. of_consumer (λ node. LogTells cfg (e ∷ past) node m.what) (λ n. tt) e.node one);
    })
    past run m

-- ---- a Replicate

replicate_tells : (cfg : Config) (past : Past) (from : NodeId) (what : What) → LogTells cfg past from what → ReplicateTells cfg past from what
replicate_tells cfg past (nodes.Shard shard side) (whats.Replicate local rec) is = is
replicate_tells cfg past _ _ is = tt

pub replicates_tell : ReplicatesTell
replicates_tell cfg past valid run m there = replicate_tells cfg past m.from m.what (logs_tell cfg past valid run m there)

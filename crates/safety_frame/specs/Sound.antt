-- Every run has sound states: each node's state is one of its kind, within all limits, and what is sent and stored is valid.
use Rattle.std.specs.Prelude.{ℕ, ◌<◌, length}
use Rattle.msg_wire.specs.Valid.{AreValidItems}
use Rattle.msg_wire.specs.Steps.{AreValidMessages}
use Rattle.net_model.specs.Pasts.{Past, sent}
use Rattle.seq_node.specs.Sound.{IsSequencer}
use Rattle.shard_node.specs.Sound.{IsReplica}
use Rattle.client_node.specs.Sound.{IsClient}
use Rattle.consumer_node.specs.Sound.{IsConsumer}
use Rattle.runs.specs.Names.{NodeId, Side, Config}
use Rattle.runs.specs.Kinds.{sequencer_after, replica_after, client_after, consumer_after, items_at}
use Rattle.safety_frame.specs.EveryRun.{OfEveryRun}

-- of each node of the cluster
pub record HasSoundStates (cfg : Config) (past : Past) : Type 0 where
  pub sequencers : (number : ℕ) → number < cfg.seqs → IsSequencer (sequencer_after cfg number past)
  pub replicas : (shard : ℕ) (side : Side) → shard < cfg.shards → IsReplica (replica_after cfg shard side past)
  pub clients : (number : ℕ) → number < length cfg.homes → IsClient (client_after cfg number past)
  pub consumers : (number : ℕ) → number < cfg.consumers → IsConsumer (consumer_after cfg number past)
  pub messages : AreValidMessages (sent past)
  pub items : (node : NodeId) → AreValidItems (items_at cfg node past)

abbrev pub StatesAreSound : Type 0
StatesAreSound = OfEveryRun HasSoundStates

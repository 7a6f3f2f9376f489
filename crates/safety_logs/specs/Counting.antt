-- The log of a shard that counts, and how far its replicas have it: what is said of logs above is said through these.
use Rattle.std.specs.Prelude.{◌≡◌, ℕ, ◌≤◌, min, List, length, slice_index}
use Rattle.cut_core.specs.Agreements.{Agreement}
pub use Rattle.node_rules.specs.Acting.{acting}
use Rattle.net_model.specs.Pasts.{Past}
use Rattle.seq_node.specs.States.{SequencerState}
use Rattle.shard_node.specs.States.{durable_locals}
use Rattle.runs.specs.Names.{Side, Config, Record}
use Rattle.runs.specs.Names.sides
use Rattle.runs.specs.Kinds.{replica_after}
pub use Rattle.runs.specs.Known.{held_log}
use Rattle.runs.specs.Known.{log_at}
use Rattle.runs.specs.Marks.{IsPrefix}

-- a list of so many records begins the logs of both replicas
pub record AreCommon (cfg : Config) (past : Past) (shard len : ℕ) : Type 0 where
  pub front : List Record
  pub long : length front ≡ len
  pub primary : IsPrefix front (log_at cfg shard sides.Primary past)
  pub backup : IsPrefix front (log_at cfg shard sides.Backup past)

-- the longest such list has so many
pub record IsCommon (cfg : Config) (past : Past) (shard len : ℕ) : Type 0 where
  pub common : AreCommon cfg past shard len
  pub longest : (more : ℕ) → AreCommon cfg past shard more → more ≤ len

-- how far a shard counts for a cut, by what is agreed then, and how far it does by the reports that a sequencer keeps
abbrev pub counted : Config → Agreement → ℕ → Past → ℕ
counted cfg agreed shard past = min (length (log_at cfg shard sides.Primary past)) (length (log_at cfg shard sides.Backup past))

abbrev pub counted_by : Agreement → SequencerState → ℕ → ℕ
counted_by agreed s shard = min (slice_index s.primaries shard) (slice_index s.backups shard)

-- how many records of its log a replica takes to be durable
abbrev pub durable_at : Config → ℕ → Side → Past → ℕ
durable_at cfg shard side past = durable_locals (replica_after cfg shard side past)

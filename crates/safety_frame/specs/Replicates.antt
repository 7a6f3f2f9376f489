-- What a replica told of its log is true of it, in every run; so what a Replicate tells stands in its sender's log.
use Rattle.std.specs.Prelude.{◌≡◌, slice_get, Some, Contains}
use Rattle.net_model.specs.Pasts.{Past, sent}
use Rattle.shard_node.specs.Messages.{IsTrueOf}
use Rattle.runs.specs.Names.{NodeId, Config, Message, What}
use Rattle.runs.specs.Names.nodes
use Rattle.runs.specs.Names.whats
use Rattle.runs.specs.Known.{log_at}
use Rattle.safety_frame.specs.EveryRun.{OfEveryRun}

-- of each message so far, by who sent it
abbrev pub OfSaid : (NodeId → What → Type 0) → Past → Type 0
OfSaid T past = (m : Message) → Contains (sent past) m → T m.from m.what

-- what a replica told of its log is true of it
abbrev pub LogTells : Config → Past → NodeId → What → Type 0
LogTells cfg past (nodes.Shard shard side) what = IsTrueOf (log_at cfg shard side past) what
LogTells cfg past _ what = Unit {0}

abbrev pub LogsTell : Config → Past → Type 0
LogsTell cfg past = OfSaid (LogTells cfg past) past

abbrev pub ReplicateTells : Config → Past → NodeId → What → Type 0
ReplicateTells cfg past (nodes.Shard shard side) (whats.Replicate local rec) = slice_get (log_at cfg shard side past) local ≡ Some rec
ReplicateTells cfg past _ _ = Unit {0}

abbrev pub ReplicatesTell : Type 0
ReplicatesTell = OfEveryRun (λ cfg past. OfSaid (ReplicateTells cfg past) past)

-- What comes to a node at an entry was sent before it.
use Rattle.std.proofs.Common.{◌≡◌, Contains, subst}
use Rattle.net_model.specs.Pasts.{Past, sent}
use Rattle.node_rules.specs.Nodes.{Node}
use Rattle.node_rules.proofs.Places.{Comes}
use Rattle.runs.specs.Names.{NodeId, Message, What, HistoryEntry}
use Rattle.runs.specs.Runs.{Comes as ComesIn}

pub record WasSent (past : Past) (from : NodeId) (what : What) : Type 0 where
  pub message : Message
  pub there : Contains (sent past) message
  pub by : message.from ≡ from
  pub says : message.what ≡ what

pub was_sent : {S : Type 0} (n : Node S) (e : HistoryEntry) (past : Past) (from : NodeId) (what : What) → ComesIn past e.node e.event
    → Comes n e.event from what
    → WasSent past from what
was_sent n e past from what taken comes = record {
  message = comes.message;
  there = (subst (ComesIn past e.node) comes.same taken).1;
  by = comes.by;
  says = comes.says;
}

-- The merge of the journals of a cluster's nodes is a run, where each delivered message was sent with a smaller stamp.
use Rattle.std.proofs.Common.{◌≡◌, ap, ◌∙◌}
use Rattle.net_model.specs.Pasts.{Past, past_of}
use Rattle.net_model.specs.Sources.{WasSent}
use Rattle.net_model.proofs.Sources.{own_of, own_state, IsLocal, merge_holds, throughout_from}
use Rattle.runs.specs.Names.{NodeId, Config, Event, HistoryEntry, Step}
use Rattle.runs.specs.Names.nodes
use Rattle.runs.specs.Names.events
use Rattle.runs.specs.Kinds.{sequencer_table, replica_table, client_table, consumer_table, step_at}
use Rattle.runs.specs.Runs.{Comes, Follows}
use Rattle.runs.specs.Journals.{IsFor, IsOwnStep, MergesAreRuns}

-- a step is said by the node's own entries
own_step : (cfg : Config) (node : NodeId) (past : Past) (event : Event) → step_at cfg node (own_of node past) event ≡ step_at cfg node past event
own_step cfg (nodes.Seq number) past event =
    let table = sequencer_table cfg (nodes.Seq number) in
    ap (λ s. table.gives s event) (own_state table (nodes.Seq number) past)
own_step cfg (nodes.Shard shard side) past event =
    let table = replica_table cfg (nodes.Shard shard side) in
    ap (λ s. table.gives s event) (own_state table (nodes.Shard shard side) past)
own_step cfg (nodes.Client number) past event =
    let table = client_table cfg (nodes.Client number) in
    ap (λ s. table.gives s event) (own_state table (nodes.Client number) past)
own_step cfg (nodes.Consumer number) past event =
    let table = consumer_table cfg (nodes.Consumer number) in
    ap (λ s. table.gives s event) (own_state table (nodes.Consumer number) past)

own_step_local : (cfg : Config) → IsLocal (IsOwnStep cfg)
own_step_local cfg past e is =
    let same = own_step cfg e.node past e.event in
    record {
      within = is.within;
      valid = is.valid;
      taken_there = is.taken_there;
      addressed = is.addressed;
      sends = is.sends ∙ ap (λ (s : Step). s.sends) same;
      shows = is.shows ∙ ap (λ (s : Step). s.marks) same;
    }

comes : (past : Past) (node : NodeId) (event : Event) → IsFor node event → WasSent past event → Comes past node event
comes past node (events.Deliver message) addressed sent = (addressed, sent)
comes past node (events.Submit by body) addressed sent = tt
comes past node events.Tick addressed sent = tt
comes past node events.Restart addressed sent = tt
comes past node (events.Command command) addressed sent = tt

follows : (cfg : Config) (past : Past) (e : HistoryEntry) → IsOwnStep cfg past e × WasSent past e.event → Follows cfg past e
follows cfg past e (own, sent) = record {
  within = own.within;
  valid = own.valid;
  taken_there = own.taken_there;
  comes = comes past e.node e.event own.addressed sent;
  sends = own.sends;
  shows = own.shows;
}

pub merge_is_run : (cfg : Config) → MergesAreRuns cfg
merge_is_run cfg journals history are own sent merge =
    throughout_from _ (Follows cfg) (follows cfg) (past_of history)
    (merge_holds (IsOwnStep cfg) journals history (own_step_local cfg) are own sent merge)

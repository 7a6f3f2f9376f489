-- Sequencers show nothing, clients acknowledgements alone, and consumers no promise.
use Rattle.std.proofs.Common.{◌≡◌, ◌∙◌, List, refl, sym, ap, subst}
use Rattle.std.specs.Prelude.{IsTrue}
use Rattle.std.specs.List.{AllByRecursion}
use Rattle.msg_wire.specs.Nodes.{is_sequencer, is_client}
use Rattle.net_model.specs.Pasts.{Past}
use Rattle.node_rules.specs.Names.{Mark, Event}
use Rattle.node_rules.specs.Nodes.{Node}
use Rattle.node_rules.specs.Turns.{step_of}
use Rattle.seq_node.specs.States.{SequencerState}
use Rattle.client_node.specs.States.{ClientState}
use Rattle.client_node.proofs.Places.{Shows, acknowledged}
use Rattle.app_law.specs.declared.any_app.AnyApp.{AnyApp}
use Rattle.consumer_node.specs.Apps.{any_meaning}
use Rattle.consumer_node.specs.States.{ConsumerState}
use Rattle.consumer_node.proofs.Places as consumer
use Rattle.runs.specs.Names.{Config, HistoryEntry}
use Rattle.runs.specs.Names.marks
use Rattle.runs.specs.Kinds.{step_at}
use Rattle.runs.specs.Runs.{Follows}
use Rattle.safety_frame.proofs.NodeKinds.{after, sequencers, clients, consumers}
use Rattle.safety_frame.proofs.Clauses.{each_shown}
use Rattle.safety_frame.proofs.Pasts.{of_sequencer, of_client}
use Rattle.safety_marks.specs.Shown.{IsOther}

abbrev pub AllOther : List Mark → Type 0
AllOther shown = AllByRecursion IsOther shown

pub sequencer_shows : (n : Node SequencerState) (event : Event) → AllOther (sequencers.step n event).marks
sequencer_shows n event =
    each_shown sequencers IsOther n event (λ e. tt) (λ s mark why. absurd why)

other_shown : (n : Node ClientState) (event : Event) (s : Node ClientState) (mark : Mark) → Shows n event s mark → IsOther mark
other_shown n event s _ (acknowledged from number position comes counted) = tt

pub client_shows : (n : Node ClientState) (event : Event) → AllOther (clients.step n event).marks
client_shows n event =
    each_shown clients IsOther n event (λ e. tt) (other_shown n event)

-- ---- consumers

abbrev pub IsNoPromise : Mark → Type 0
IsNoPromise (marks.Promise position rec) = ⊥
IsNoPromise _ = Unit {0}

no_promise : (n : Node (ConsumerState AnyApp)) (event : Event) (s : Node (ConsumerState AnyApp)) (mark : Mark) → consumer.Shows any_meaning n event s mark
    → IsNoPromise mark
no_promise n event s _ (consumer.noticed shard first why) = tt
no_promise n event s _ (consumer.undone shard first why past) = tt
no_promise n event s _ (consumer.applied_next rec held) = tt
no_promise n event s _ (consumer.confirmed rec o why) = tt
no_promise n event s _ (consumer.written output some why) = tt

pub consumer_shows : (n : Node (ConsumerState AnyApp)) (event : Event) → AllByRecursion IsNoPromise (consumers.step n event).marks
consumer_shows n event =
    each_shown consumers IsNoPromise n event (λ e. (tt, tt)) (no_promise n event)

-- ---- of an entry

module _ (cfg : Config) (e : HistoryEntry) (past : Past) (follows : Follows cfg past e) where
  pub sequencer_others : IsTrue (is_sequencer e.node) → AllOther e.marks
  sequencer_others one =
      let step =
      of_sequencer (λ node. step_at cfg node past e.event ≡ step_of (sequencers.step (after sequencers cfg node past) e.event)) (λ n. refl) e.node one in
      subst AllOther (sym (follows.shows ∙ ap (λ s. s.marks) step)) (sequencer_shows (after sequencers cfg e.node past) e.event)

  pub client_others : IsTrue (is_client e.node) → AllOther e.marks
  client_others one =
      let step =
      of_client (λ node. step_at cfg node past e.event ≡ step_of (clients.step (after clients cfg node past) e.event)) (λ n. refl) e.node one in
      subst AllOther (sym (follows.shows ∙ ap (λ s. s.marks) step)) (client_shows (after clients cfg e.node past) e.event)

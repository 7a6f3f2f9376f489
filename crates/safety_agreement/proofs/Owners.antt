-- Ballots have owners: a begin takes a ballot of its own, and a reply goes to the sender with the sender's ballot.
use Rattle.std.proofs.Common.{◌≡◌, true, Contains, refl, subst}
use Rattle.msg_wire.specs.Heeded.{goes_between}
use Rattle.msg_wire.specs.Valid.{IsValidConfig}
use Rattle.node_rules.proofs.Lists.{all_weaken}
use Rattle.net_model.specs.Pasts.{Past, sent}
use Rattle.runs.specs.Names.{NodeId, Config, Message, What}
use Rattle.runs.specs.Names.nodes
use Rattle.runs.specs.Names.whats
use Rattle.runs.specs.Runs.{IsPastOf}
use Rattle.safety_frame.proofs.Going.{came}
use Rattle.safety_frame.proofs.Heeding.{messages_are_heeded}
use Rattle.safety_frame.proofs.Lists.{all_true}
use Rattle.safety_frame.proofs.Pasts.{of_replica, of_client, of_consumer}
use Rattle.safety_frame.proofs.NodeKinds.{after, sequencers}
use Rattle.safety_frame.proofs.Names.{states_named}
use Rattle.safety_frame.proofs.Inductions.{OfStates, every_state}
use Rattle.safety_frame.proofs.Senders.{SendsKeep, every_sent}
use Rattle.safety_frame.specs.EveryRun.{OfEveryRun}
use Rattle.safety_agreement.specs.Owners.{GoesByOwner, BallotsHaveOwners}
use Rattle.safety_agreement.proofs.Standing.{WasSent, was_sent}
use Rattle.safety_agreement.proofs.OwnedSteps.{number_below, MayOwn, Owned, owned_sites, step_told}

-- ---- senders

-- of what a sequencer sends
abbrev ByOwner : Config → NodeId → NodeId → What → Type 0
ByOwner cfg (nodes.Seq number) to what = GoesByOwner cfg (nodes.Seq number) to what
ByOwner cfg _ to what = Unit {0}

to_sender : (cfg : Config) (from to : NodeId) (what : What) → GoesByOwner cfg from to what → ByOwner cfg from to what
to_sender cfg (nodes.Seq number) to what goes = goes
to_sender cfg _ to what goes = tt

-- none else sends what has an owner
by_sender : (cfg : Config) (from to other : NodeId) (what : What) → goes_between what from other ≡ true → ByOwner cfg from to what
    → GoesByOwner cfg from to what
by_sender cfg (nodes.Seq number) to other what between is = is
by_sender cfg from to other (whats.Prepare slot ballot) between is = absurd (cc)
by_sender cfg from to other (whats.Promise slot ballot report) between is = absurd (cc)
by_sender cfg from to other (whats.Accept slot ballot entry) between is = absurd (cc)
by_sender cfg from to other (whats.Accepted slot ballot) between is = absurd (cc)
by_sender cfg from to other _ between is = tt

-- ---- runs

module _ (cfg : Config) (valid : IsValidConfig cfg) where
  attempts_owned : (past : Past) → IsPastOf cfg past → OfStates sequencers cfg valid (λ past node n. MayOwn cfg node n.own.attempt) past
  attempts_owned =
      every_state sequencers cfg valid (λ past node n. MayOwn cfg node n.own.attempt)
      (record {
        starts = λ node one here. tt;
        steps = λ e past run one before.
            let n = after sequencers cfg e.node past in
            let named = states_named sequencers cfg valid past run.1 e.node one run.0.within in
            let below = number_below cfg e.node run.0.within one in
            (sequencers.walk (Owned cfg e.node below n e.event) n e.event
            (owned_sites cfg e.node below n e.event named (before e.node one run.0.within))).1;
        stays = λ e past node n run other owned. owned;
      })

  -- what the frame has of each kind of sender
  sequencers_keep : SendsKeep cfg valid sequencers (λ past from to what. ByOwner cfg from to what)
  sequencers_keep e past run one before =
      let n = after sequencers cfg e.node past in
      let named = states_named sequencers cfg valid past run.1 e.node one run.0.within in
      let below = number_below cfg e.node run.0.within one in
      all_weaken (λ (m : Message). GoesByOwner cfg e.node m.to m.what) (λ (m : Message). ByOwner cfg e.node m.to m.what) (sequencers.step n e.event).sends
      (λ m goes. to_sender cfg e.node m.to m.what goes)
      (step_told cfg e.node below n e.event named (attempts_owned past run.1 e.node one run.0.within)
      (λ from what comes.
      let was : WasSent past from what = was_sent n e.event from what past e.node comes run.0.comes in (
        was.message.to,
        by_sender cfg from was.message.to n.base.me what (came n e.event from what comes).1
            (subst (λ w. ByOwner cfg from was.message.to w) was.says
            (subst (λ f. ByOwner cfg f was.message.to was.message.what) was.by (before was.message was.there))),
      )))

  all_go : (past : Past) → IsPastOf cfg past → (m : Message) → Contains (sent past) m → ByOwner cfg m.from m.to m.what
  all_go =
      every_sent cfg valid (λ past from to what. ByOwner cfg from to what)
      (record {
        stays = λ e past m run there was. was;
        at_sequencers = sequencers_keep;
        at_replicas = λ e past run one before. all_true _ _ (λ m. of_replica (λ node. ByOwner cfg node m.to m.what) (λ n side. tt) e.node one);
        at_clients = λ e past run one before. all_true _ _ (λ m. of_client (λ node. ByOwner cfg node m.to m.what) (λ n. tt) e.node one);
        at_consumers = λ e past run one before. all_true _ _ (λ m. of_consumer (λ node. ByOwner cfg node m.to m.what) (λ n. tt) e.node one);
      })

pub ballots_have_owners : OfEveryRun BallotsHaveOwners
ballots_have_owners cfg past valid run = record {
  attempts = λ number a here stands. subst (MayOwn cfg (nodes.Seq number)) stands (attempts_owned cfg valid past run (nodes.Seq number) refl here);
  messages = λ m there.
      by_sender cfg m.from m.to m.to m.what ((messages_are_heeded cfg past valid run).messages m there).between (all_go cfg valid past run m there);
}

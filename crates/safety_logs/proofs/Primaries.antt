-- Of every run's primaries: what they know to be covered is durable, and they promise no more than is durable.
use Rattle.std.proofs.Common.{◌≡◌, ℕ, ◌<◌, ◌≤◌, Bool, true, if◌then◌else◌, List, length, refl, sym, ap, subst, arith}
use Rattle.cut_core.specs.Map.{covered_locals}
use Rattle.msg_wire.specs.Nodes.{is_primary, number_of}
use Rattle.msg_wire.specs.Valid.{IsValidConfig}
use Rattle.net_model.specs.Pasts.{Past}
use Rattle.node_rules.specs.Nodes.{Node}
use Rattle.shard_node.specs.States.{ReplicaState, durable_locals}
use Rattle.runs.specs.Names.{NodeId, Config, Entry}
use Rattle.runs.specs.Names.nodes
use Rattle.runs.specs.Names.sides
use Rattle.runs.specs.Runs.{IsPastOf}
use Rattle.runs.specs.Kinds.{replica_after}
use Rattle.runs.specs.Known.{agreed_after, agreed_at}
use Rattle.safety_frame.proofs.NodeKinds.{after, replicas}
use Rattle.safety_frame.proofs.Inductions.{OfStates, every_state}
use Rattle.safety_frame.proofs.Names.{IsNamed, states_named}
use Rattle.safety_frame.proofs.StableItems.{known_is}
use Rattle.safety_frame.proofs.StableParts.{replica_known}
use Rattle.safety_frame.specs.EveryRun.{OfEveryRun}
use Rattle.safety_logs.specs.Counting.{durable_at}
use Rattle.safety_logs.specs.Held.{PromisedIsDurable}
use Rattle.safety_logs.proofs.Promising.{Promises, step_promises}

all_promise : (cfg : Config) (valid : IsValidConfig cfg) (past : Past) → IsPastOf cfg past → OfStates replicas cfg valid (λ past node n. Promises n) past
all_promise cfg valid =
    every_state replicas cfg valid (λ past node n. Promises n)
    (record {
      starts = λ node one here. (omega arith, omega arith);
      steps = λ e past run one before. step_promises (after replicas cfg e.node past) e.event (before e.node one run.0.within);
      stays = λ e past node n run other is. is;
    })

-- a primary's durable records are those of its field
durable_is : (n : Node ReplicaState) → is_primary n.base.me ≡ true → n.own.durable ≡ durable_locals n
durable_is n primary = sym (ap (λ (b : Bool). if b then n.own.durable else length n.own.log) primary)

module _ (cfg : Config) (valid : IsValidConfig cfg) (past : Past) (run : IsPastOf cfg past) (shard : ℕ) (here : shard < cfg.shards) where
  abbrev node : NodeId
  node = nodes.Shard shard sides.Primary

  abbrev n : Node ReplicaState
  n = after replicas cfg node past

  named : IsNamed cfg node n
  named = states_named replicas cfg valid past run node refl here

  is : Promises n
  is = all_promise cfg valid past run node refl here

  durable : n.own.durable ≡ durable_locals n
  durable = durable_is n (ap is_primary named.1)

  covered : covered_locals (agreed_at cfg node past) shard ≤ n.own.durable
  covered =
      subst (λ (known : List Entry). covered_locals (agreed_after cfg known) shard ≤ n.own.durable)
      (known_is replicas replica_known cfg valid past run node refl here)
      (subst (λ (c : Config). covered_locals (agreed_after c n.base.known) shard ≤ n.own.durable) named.0
      (subst (λ (me : NodeId). covered_locals (agreed_after n.base.cfg n.base.known) (number_of me) ≤ n.own.durable) named.1 is.0))

-- what a primary knows to be covered it takes for durable
pub covered_is_durable : (cfg : Config) (past : Past) → IsValidConfig cfg → IsPastOf cfg past → (shard : ℕ) → shard < cfg.shards
    → covered_locals (agreed_at cfg (nodes.Shard shard sides.Primary) past) shard ≤ durable_at cfg shard sides.Primary past
covered_is_durable cfg past valid run shard here =
    subst (λ (count : ℕ). covered_locals (agreed_at cfg (nodes.Shard shard sides.Primary) past) shard ≤ count) (durable cfg valid past run shard here)
    (covered cfg valid past run shard here)

pub promised_is_durable : OfEveryRun PromisedIsDurable
promised_is_durable cfg past valid run shard sides.Backup here acts = absurd (cc)
promised_is_durable cfg past valid run shard sides.Primary here acts =
    subst (λ (count : ℕ). (replica_after cfg shard sides.Primary past).own.promised ≤ count) (durable cfg valid past run shard here)
    (is cfg valid past run shard here).1

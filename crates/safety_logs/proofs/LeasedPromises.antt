-- Of every run's primaries: they promise no more than is leased to their shard.
use Rattle.std.proofs.Common.{◌≤◌, List, refl, subst, arith}
use Rattle.msg_wire.specs.Nodes.{number_of}
use Rattle.msg_wire.specs.Valid.{IsValidConfig}
use Rattle.net_model.specs.Pasts.{Past}
use Rattle.node_rules.specs.Bases.{fresh_base}
use Rattle.node_rules.proofs.Limits.{base_fresh}
use Rattle.runs.specs.Names.{NodeId, Config, Entry}
use Rattle.runs.specs.Names.nodes
use Rattle.runs.specs.Names.sides
use Rattle.runs.specs.Runs.{IsPastOf}
use Rattle.runs.specs.Known.{agreed_after}
use Rattle.safety_frame.proofs.NodeKinds.{after, replicas}
use Rattle.safety_frame.proofs.Inductions.{OfStates, every_state}
use Rattle.safety_frame.proofs.Names.{states_named}
use Rattle.safety_frame.proofs.SoundStates.{states_are}
use Rattle.safety_frame.proofs.StableItems.{known_is}
use Rattle.safety_frame.proofs.StableParts.{replica_known}
use Rattle.safety_frame.specs.EveryRun.{OfEveryRun}
use Rattle.safety_logs.specs.Held.{PromisedIsLeased}
use Rattle.safety_logs.proofs.Leases.{leases, base_consistent}
use Rattle.safety_logs.proofs.Leasing.{Leased, step_leased}

all_leased : (cfg : Config) (valid : IsValidConfig cfg) (past : Past) → IsPastOf cfg past → OfStates replicas cfg valid (λ past node n. Leased n) past
all_leased cfg valid =
    every_state replicas cfg valid (λ past node n. Leased n)
    (record {
      starts = λ node one here. (omega arith, base_consistent (fresh_base cfg node) (base_fresh cfg node valid here));
      steps = λ e past run one before.
          step_leased (after replicas cfg e.node past) e.event run.0.valid (states_are replicas cfg valid past run.1 e.node one run.0.within).base
          (before e.node one run.0.within);
      stays = λ e past node n run other is. is;
    })

pub promised_is_leased : OfEveryRun PromisedIsLeased
promised_is_leased cfg past valid run shard sides.Backup here acts = absurd (cc)
promised_is_leased cfg past valid run shard sides.Primary here acts =
    let node : NodeId = nodes.Shard shard sides.Primary in
    let n = after replicas cfg node past in
    let named = states_named replicas cfg valid past run node refl here in
    subst (λ (known : List Entry). n.own.promised ≤ leases (agreed_after cfg known) shard) (known_is replicas replica_known cfg valid past run node refl here)
    (subst (λ (c : Config). n.own.promised ≤ leases (agreed_after c n.base.known) shard) named.0
    (subst (λ (me : NodeId). n.own.promised ≤ leases (agreed_after n.base.cfg n.base.known) (number_of me)) named.1
    (all_leased cfg valid past run node refl here).0))

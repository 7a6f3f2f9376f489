-- Of every run: a primary has promised what it knows to be covered, and all that is durable and leased.
use Rattle.std.proofs.Common.{◌≡◌, ◌∙◌, ℕ, ◌<◌, ◌≤◌, Bool, true, if◌then◌else◌, length, refl, sym, ap, subst, arith}
use Rattle.std.specs.Prelude.{min}
use Rattle.cut_core.specs.Agreements.{Agreement}
use Rattle.cut_core.specs.Consistency.{IsConsistent}
use Rattle.cut_core.specs.Map.{covered_locals}
use Rattle.msg_wire.specs.Nodes.{is_primary, number_of}
use Rattle.msg_wire.specs.Valid.{IsValidConfig}
use Rattle.net_model.specs.Pasts.{Past}
use Rattle.node_rules.specs.Nodes.{Node, agreed_by}
use Rattle.node_rules.specs.Sound.{IsBase}
use Rattle.shard_node.specs.States.{ReplicaState, durable_locals}
use Rattle.runs.specs.Names.{NodeId, Config}
use Rattle.runs.specs.Runs.{IsPastOf}
use Rattle.runs.specs.Known.{agreed_after}
use Rattle.safety_frame.proofs.NodeKinds.{after, replicas}
use Rattle.safety_frame.proofs.Inductions.{OfStates, every_state}
use Rattle.safety_frame.proofs.Names.{states_named}
use Rattle.safety_frame.proofs.SoundStates.{states_are}
use Rattle.safety_frame.proofs.StableItems.{known_is}
use Rattle.safety_frame.proofs.StableParts.{replica_known}
use Rattle.safety_frame.specs.EveryRun.{OfEveryRun}
use Rattle.safety_logs.proofs.Leases.{leases, base_consistent, covered_leased}
use Rattle.safety_logs.proofs.Primaries.{covered_is_durable}
use Rattle.safety_consumers.specs.Eager.{primary_of, agreed_of, primary_after, PromisedIsGreatest}
use Rattle.safety_consumers.proofs.PromisedEnds.{Greatest, step_greatest}

all_greatest : (cfg : Config) (valid : IsValidConfig cfg) (past : Past) → IsPastOf cfg past
    → OfStates replicas cfg valid (λ past node n. is_primary n.base.me ≡ true → Greatest n) past
all_greatest cfg valid =
    every_state replicas cfg valid (λ past node n. is_primary n.base.me ≡ true → Greatest n)
    (record {
      starts = λ node one here primary. omega arith;
      steps = λ e past run one before primary.
          let n = after replicas cfg e.node past in
          step_greatest n e.event (replicas.keeps n e.event (states_are replicas cfg valid past run.1 e.node one run.0.within) run.0.valid).0.base primary;
      stays = λ e past node n run other is. is;
    })

-- ---- the primary of a shard

module _ (cfg : Config) (valid : IsValidConfig cfg) (shard : ℕ) (here : shard < cfg.shards) (past : Past) (run : IsPastOf cfg past) where
  abbrev pub n : Node ReplicaState
  n = after replicas cfg (primary_of shard) past

  pub name_is : n.base.me ≡ primary_of shard
  name_is = (states_named replicas cfg valid past run (primary_of shard) refl here).1

  pub agreed_is : agreed_by n.base ≡ agreed_of cfg shard past
  agreed_is =
      ap (λ (c : Config). agreed_after c n.base.known) (states_named replicas cfg valid past run (primary_of shard) refl here).0
      ∙ ap (agreed_after cfg) (known_is replicas replica_known cfg valid past run (primary_of shard) refl here)

  pub base_is : IsBase n.base
  base_is = (states_are replicas cfg valid past run (primary_of shard) refl here).base

  pub is_consistent : IsConsistent (agreed_of cfg shard past)
  is_consistent = subst IsConsistent agreed_is (base_consistent n.base base_is)

  -- what is said of the state is said of the shard, and back
  pub of_shard : (P : Agreement → ℕ → Type 0) → P (agreed_by n.base) (number_of n.base.me) → P (agreed_of cfg shard past) shard
  of_shard P is = subst (λ (a : Agreement). P a shard) agreed_is (subst (λ (me : NodeId). P (agreed_by n.base) (number_of me)) name_is is)

  pub of_state : (P : Agreement → ℕ → Type 0) → P (agreed_of cfg shard past) shard → P (agreed_by n.base) (number_of n.base.me)
  of_state P is = subst (λ (me : NodeId). P (agreed_by n.base) (number_of me)) (sym name_is) (subst (λ (a : Agreement). P a shard) (sym agreed_is) is)

  -- a primary's durable records are those of its field
  pub durable_is : durable_locals n ≡ n.own.durable
  durable_is = ap (λ (b : Bool). if b then n.own.durable else length n.own.log) (ap is_primary name_is)

  pub greatest : min (primary_after cfg shard past).durable (leases (agreed_of cfg shard past) shard) ≤ (primary_after cfg shard past).promised
  greatest =
      of_shard (λ a s. min n.own.durable (leases a s) ≤ n.own.promised)
      (all_greatest cfg valid past run (primary_of shard) refl here (ap is_primary name_is))

  pub covers : covered_locals (agreed_of cfg shard past) shard ≤ (primary_after cfg shard past).promised
  covers =
      omega (arith, greatest, covered_leased (agreed_of cfg shard past) shard, covered_is_durable cfg past valid run shard here, durable_is)

pub promised_is_greatest : OfEveryRun PromisedIsGreatest
promised_is_greatest cfg past valid run shard here = record {
  covered = covers cfg valid shard here past run;
  greatest = greatest cfg valid shard here past run;
}

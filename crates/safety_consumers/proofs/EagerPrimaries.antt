-- Of every run: primaries promise all that is durable and leased.
use Rattle.std.proofs.Common.{◌≡◌, ℕ, ◌<◌, ◌≤◌, ◌∷◌, [], ap, inl, inr, arith}
use Rattle.std.specs.Prelude.{is_some}
use Rattle.std.proofs.lemmas.Bool.{cases_lt}
use Rattle.msg_wire.specs.Valid.{IsValidConfig}
use Rattle.net_model.specs.Pasts.{Past, Throughout}
use Rattle.node_rules.specs.Nodes.{Node}
use Rattle.shard_node.specs.States.{ReplicaState}
use Rattle.runs.specs.Names.{Config}
use Rattle.runs.specs.Runs.{IsPastOf}
use Rattle.runs.specs.Eagerness.{PromisesAll, PromisesAllAfter}
use Rattle.safety_frame.proofs.NodeKinds.{replicas}
use Rattle.safety_frame.specs.EveryRun.{OfEveryRun}
use Rattle.safety_consumers.specs.Eager.{primary_of, primary_after, PrimariesPromiseAll}
use Rattle.safety_consumers.proofs.PromisedStates.{is_consistent, greatest}
use Rattle.safety_consumers.proofs.PromisedMarks.{all_marked}
use Rattle.safety_consumers.proofs.EagerOutside.{untouched}

module _ (cfg : Config) (valid : IsValidConfig cfg) (shard : ℕ) where
  inside : shard < cfg.shards → (past : Past) → IsPastOf cfg past → PromisesAll cfg shard past
  inside here past run local position durable lease =
      let within = ((is_consistent cfg valid shard here past run).leases shard local).0 (ap is_some lease) in
      all_marked cfg valid shard here past run local position (omega (arith, durable, within, greatest cfg valid shard here past run)) lease

  -- one that isn't the cluster's has nothing durable
  outside : cfg.shards ≤ shard → (past : Past) → IsPastOf cfg past → PromisesAll cfg shard past
  outside out past run local position durable lease =
      let same = untouched cfg (primary_of shard) (λ here. omega (arith, here, out)) replicas past run in
      let none : (primary_after cfg shard past).durable ≡ 0 = ap (λ (s : Node ReplicaState). s.own.durable) same in
      absurd (omega (arith, durable, none))

  promises_all : (past : Past) → IsPastOf cfg past → PromisesAll cfg shard past
  promises_all = elim (cases_lt shard cfg.shards) [
    | inl here ↦ inside here
    | inr out ↦ outside out
  ]

  throughout : (past : Past) → IsPastOf cfg past → Throughout (PromisesAllAfter cfg shard) past
  throughout [] run = tt
  throughout (e ∷ past) run = (λ no_restart. promises_all (e ∷ past) run, throughout past run.1)

pub primaries_promise_all : OfEveryRun PrimariesPromiseAll
primaries_promise_all cfg past valid run shard = throughout cfg valid shard past run

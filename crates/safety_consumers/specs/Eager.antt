-- Primaries promise as far as they can, each record where it is leased; so what is durable is promised, and what is handed in order is applied.
use Rattle.std.specs.Prelude.{◌≡◌, ◌⊎◌, ℕ, ◌<◌, ◌≤◌, min, Some}
use Rattle.cut_core.specs.Agreements.{Agreement, count_of}
use Rattle.cut_core.specs.Map.{map_of, leased, covered_locals}
use Rattle.net_model.specs.Pasts.{Past, Throughout, AfterEach, SinceRestart}
use Rattle.shard_node.specs.States.{ReplicaState}
use Rattle.runs.specs.Names.{NodeId, Config}
use Rattle.runs.specs.Names.nodes
use Rattle.runs.specs.Names.sides
use Rattle.runs.specs.Kinds.{replica_after}
use Rattle.runs.specs.Known.{agreed_at}
use Rattle.runs.specs.Eagerness.{Promises, WasCovered, PromisesAllAfter, AppliesAll}

-- ---- primaries

abbrev pub primary_of : ℕ → NodeId
primary_of shard = nodes.Shard shard sides.Primary

-- what a shard's primary knows to be agreed, and what it has
abbrev pub agreed_of : Config → ℕ → Past → Agreement
agreed_of cfg shard past = agreed_at cfg (primary_of shard) past

abbrev pub primary_after : Config → ℕ → Past → ReplicaState
primary_after cfg shard past = (replica_after cfg shard sides.Primary past).own

-- it has promised what it knows to be covered, and all that is durable and leased
pub record HasPromisedMost (cfg : Config) (past : Past) (shard : ℕ) : Type 0 where
  pub covered : covered_locals (agreed_of cfg shard past) shard ≤ (primary_after cfg shard past).promised
  pub greatest : min (primary_after cfg shard past).durable (count_of shard (map_of (agreed_of cfg shard past))) ≤ (primary_after cfg shard past).promised

abbrev pub PromisedIsGreatest : Config → Past → Type 0
PromisedIsGreatest cfg past = (shard : ℕ) → shard < cfg.shards → HasPromisedMost cfg past shard

-- each local that it has promised was covered at its last restart, or was promised since then at the position where it is leased now
abbrev pub PromisedIsMarked : Config → Past → Type 0
PromisedIsMarked cfg past =
    (shard : ℕ) → shard < cfg.shards → (local position : ℕ) → local < (primary_after cfg shard past).promised
    → leased (agreed_of cfg shard past) shard local ≡ Some position
    → WasCovered cfg shard local past ⊎ SinceRestart (primary_of shard) (Promises (primary_of shard) position) past

-- ---- the two halves of eagerness

abbrev pub PrimariesPromiseAll : Config → Past → Type 0
PrimariesPromiseAll cfg past = (shard : ℕ) → Throughout (PromisesAllAfter cfg shard) past

abbrev pub ConsumersApplyAll : Config → Past → Type 0
ConsumersApplyAll cfg past = (number : ℕ) → AfterEach (AppliesAll cfg number) past

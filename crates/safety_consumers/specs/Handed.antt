-- What was handed to a consumer it holds, as far as it needs it, and it holds nothing else; and it has applied all that it holds in order.
use Rattle.std.specs.Prelude.{◌≡◌, ◌⊎◌, ℕ, ◌<◌, true, None, IsSome}
use Rattle.fix_ante.specs.declared.spots.Owner.{Owner}
use Rattle.cut_core.specs.Agreements.{Agreement}
use Rattle.cut_core.specs.Map.{gone_end}
use Rattle.net_model.specs.Pasts.{Past, SinceRestart}
use Rattle.spec_delivery.specs.Lanes.{is_past_end}
use Rattle.spec_delivery.specs.Buffers.{lane_of}
use Rattle.consumer_node.specs.States.{ConsumerState, applied_of}
use Rattle.consumer_node.specs.Sound.{held_for}
use Rattle.consumer_node.specs.Speculation.{held_of}
use Rattle.runs.specs.Names.{Config}
use Rattle.runs.specs.Names.nodes
use Rattle.runs.specs.Kinds.{consumer_after}
use Rattle.runs.specs.Known.{agreed_at}
use Rattle.runs.specs.Eagerness.{Hands}

-- ---- held

-- a shard's local is below the floor, or at or past the shard's end, or its record is held
abbrev pub IsSettled : {A : Type 0} → Agreement → ConsumerState A → Owner → Type 0
IsSettled a s o = (o.local < (lane_of s.lanes o.shard).floor) ⊎ ((is_past_end (gone_end a o.shard) o.local ≡ true) ⊎ IsSome (held_of s.lanes o))

-- so it is of what was handed since the last restart; and what is held was handed since then
pub record IsHandedHeld (cfg : Config) (past : Past) (number : ℕ) (o : Owner) : Type 0 where
  pub kept : SinceRestart (nodes.Consumer number) (Hands cfg number o) past
      → IsSettled (agreed_at cfg (nodes.Consumer number) past) (consumer_after cfg number past).own o
  pub handed : IsSome (held_of (consumer_after cfg number past).own.lanes o) → SinceRestart (nodes.Consumer number) (Hands cfg number o) past

abbrev pub HandedIsHeld : Config → Past → Type 0
HandedIsHeld cfg past = (number : ℕ) → number < cfg.consumers → (o : Owner) → IsHandedHeld cfg past number o

-- ---- applied

-- the record of the position that would be applied next isn't held
abbrev pub AppliedIsGreatest : Config → Past → Type 0
AppliedIsGreatest cfg past =
    (number : ℕ) → number < cfg.consumers
    → held_for (agreed_at cfg (nodes.Consumer number) past) (consumer_after cfg number past).own (applied_of (consumer_after cfg number past).own) ≡ None

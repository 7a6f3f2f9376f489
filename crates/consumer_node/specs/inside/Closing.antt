-- Shards that are gone, closed one shard after another.
use Rattle.std.specs.Prelude.{ℕ, List}
use Rattle.std.specs.Option.{option_map_or}
use Rattle.cut_core.specs.declared.gone.Gone.{Gone}
use Rattle.cut_core.specs.Map.{end_among}
use Rattle.spec_delivery.specs.Lanes.{LaneState}
use Rattle.spec_delivery.specs.Buffers.{with_end}

-- a shard ends at its end, where it is gone
abbrev pub close_shard : List Gone → List LaneState → ℕ → List LaneState
close_shard gone lanes shard = option_map_or (λ end. with_end lanes shard end) (end_among gone shard) lanes

-- The held records of all shards.
use Rattle.std.specs.Prelude.{ℕ, Option, List, map, get_or, slice_set, replicate}
use Rattle.record_codec.specs.declared.record.Record.{Record}
use Rattle.spec_delivery.specs.declared.put.Put.{Put}
use Rattle.spec_delivery.specs.Lanes.{LaneState, fresh_lane, held_at, put_answer, after_put, raised, closed, emptied}

-- six shards, of which nothing is confirmed or held
abbrev pub fresh_buffer : List LaneState
fresh_buffer = replicate 6 fresh_lane

-- the records of a shard
abbrev pub lane_of : List LaneState → ℕ → LaneState
lane_of lanes shard = get_or lanes shard fresh_lane

-- the record that is held of a shard at a local
abbrev pub record_at : List LaneState → ℕ → ℕ → Option Record
record_at lanes shard local = held_at (lane_of lanes shard) local

abbrev pub answer_to : List LaneState → ℕ → ℕ → Put
answer_to lanes shard local = put_answer (lane_of lanes shard) local

abbrev pub with_record : List LaneState → ℕ → ℕ → Record → List LaneState
with_record lanes shard local rec =
    slice_set lanes shard (after_put (answer_to lanes shard local) (lane_of lanes shard) local rec)

abbrev pub with_floor : List LaneState → ℕ → List LaneState
with_floor lanes shard = slice_set lanes shard (raised (lane_of lanes shard))

abbrev pub with_end : List LaneState → ℕ → ℕ → List LaneState
with_end lanes shard end = slice_set lanes shard (closed (lane_of lanes shard) end)

abbrev pub without_records : List LaneState → List LaneState
without_records lanes = map emptied lanes

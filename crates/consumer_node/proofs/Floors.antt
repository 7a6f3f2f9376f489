-- Six shards, and no more of one confirmed than of all.
use Rattle.std.proofs.Common.{ℕ, ◌+◌, ◌≤◌, List, length-set, ◌∙◌, arith}
use Rattle.std.proofs.lemmas.List.{length-map}
use Rattle.std.proofs.lemmas.List.Elements.{All-map, All-from_recursion, recursion_from_All}
use Rattle.node_rules.proofs.Lists.{all_weaken}
use Rattle.consumer_node.specs.inside.Names.{LaneState, raised, emptied, lane_of, with_floor, without_records}
use Rattle.consumer_node.specs.inside.Kept.{AreLanes}
use Rattle.consumer_node.proofs.Closings.{all_of, all_set}

abbrev IsLow : ℕ → LaneState → Type 0
IsLow confirmed lane = lane.floor ≤ confirmed

pub lanes_clear : (confirmed : ℕ) (lanes : List LaneState) → AreLanes confirmed lanes → AreLanes confirmed (without_records lanes)
lanes_clear confirmed lanes h =
    let low = IsLow confirmed in
    record { shards = length-map lanes emptied ∙ h.shards; floors = recursion_from_All low (without_records lanes) (All-map low emptied lanes (All-from_recursion low lanes h.floors)) }

pub lanes_raise : (confirmed : ℕ) (lanes : List LaneState) (shard : ℕ) → AreLanes confirmed lanes → AreLanes (confirmed + 1) (with_floor lanes shard)
lanes_raise confirmed lanes shard h =
    let lane = raised (lane_of lanes shard) in
    let low : (lane_of lanes shard).floor ≤ confirmed = all_of (IsLow confirmed) lanes shard (omega arith) h.floors in
    record {
      shards = length-set lanes shard lane ∙ h.shards;
      floors = all_set (IsLow (confirmed + 1)) lanes shard lane (all_weaken (IsLow confirmed) (IsLow (confirmed + 1)) lanes (λ l is. omega (arith, is)) h.floors) (omega (arith, low));
    }

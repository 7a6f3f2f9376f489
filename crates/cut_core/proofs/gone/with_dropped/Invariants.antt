use Rattle.std.proofs.Common.{◌≡◌, ◌+◌, ◌≤◌, ◌++◌, not, length, map, take, slice_index}
use Rattle.std.specs.List.{filter}
use Rattle.fix_ante.specs.declared.spots.Spot.{Spot}
use Rattle.fix_ante.specs.Windows.{has_row}
use Rattle.cut_core.proofs.gone.with_dropped.Given as goal

abbrev pub invariant-loop-spot : goal.invariant-loop-spot
invariant-loop-spot l =
    (l.more.items ≡ l.gone.items ++ map (λ (s : Spot). record { shard = s.shard; end = slice_index l.ends s.shard }) (filter (λ (s : Spot). not (has_row s.shard l.next.spots)) (take l.spot-index l.spot-items)))
    × (length l.more.items ≤ length l.gone.items + l.spot-index)

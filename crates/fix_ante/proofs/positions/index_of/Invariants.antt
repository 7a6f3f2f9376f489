use Rattle.std.proofs.Common.{◌≡◌, ◌*◌, ◌≤◌, drop}
use Rattle.fix_ante.specs.Positions.{index_among}
use Rattle.fix_ante.proofs.positions.index_of.Given as goal

abbrev pub invariant-loop-spot : goal.invariant-loop-spot
invariant-loop-spot l =
    (index_among (record { rounds = l.rounds; width = l.width; before = 0 }) l.spot-items (record { shard = l.shard; local = l.local })
    ≡ index_among (record { rounds = l.rounds; width = l.width; before = l.before }) (drop l.spot-index l.spot-items) (record { shard = l.shard; local = l.local }))
    × (l.before ≤ 255 * l.spot-index)

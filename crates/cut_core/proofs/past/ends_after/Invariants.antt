use Rattle.std.proofs.Common.{◌≡◌, ℕ, ◌<◌, length, get_or}
use Rattle.cut_core.specs.inside.Kept.{local_end}
use Rattle.cut_core.proofs.past.ends_after.Given as goal

abbrev pub invariant-loop-shard : goal.invariant-loop-shard
invariant-loop-shard l =
    (length l.ends ≡ 6)
    × ((shard : ℕ) → shard < l.shard → get_or l.ends shard 0 ≡ local_end l.window.spots l.rounds l.gone shard)

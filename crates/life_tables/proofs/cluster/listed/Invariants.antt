use Rattle.std.proofs.Common.{◌≡◌, take}
use Rattle.life_tables.proofs.cluster.listed.Given as goal

abbrev pub invariant-loop-home : goal.invariant-loop-home
invariant-loop-home l = l.list ≡ take l.home-index l.homes

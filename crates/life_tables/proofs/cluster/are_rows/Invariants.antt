use Rattle.std.proofs.Common.{drop, IsTrue}
use Rattle.std.specs.List.{AllByRecursion}
use Rattle.quota_table.specs.Rows.{has_shard}
use Rattle.life_tables.proofs.cluster.are_rows.Given as goal

abbrev pub invariant-loop-home : goal.invariant-loop-home
invariant-loop-home l =
    AllByRecursion (λ home. IsTrue (has_shard home l.table)) (drop l.home-index l.homes)
    → AllByRecursion (λ home. IsTrue (has_shard home l.table)) l.homes

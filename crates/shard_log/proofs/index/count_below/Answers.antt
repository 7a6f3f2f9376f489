use Rattle.std.proofs.Common.{nat_lt, rules}
use Rattle.std.proofs.lemmas.List.Sorted.{IsPartitionPoint-from_clause, IsPartitionedBy-ltb}
use Rattle.shard_log.specs.declared.index.Place.{Place}
use Rattle.shard_log.proofs.index.count_below.Goals as goal

pub returns-clause-point : goal.returns-clause-point
returns-clause-point c =
    let places = c.args.places.now in
    let by_local = IsPartitionedBy-ltb (λ (p : Place). p.local) places c.args.end c.requires in
    IsPartitionPoint-from_clause (λ (p : Place). nat_lt p.local c.args.end) places _ c.partition_point.ensures.partitioned by_local (λ a r f h. search rules)

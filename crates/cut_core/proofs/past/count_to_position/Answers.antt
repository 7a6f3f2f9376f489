use Rattle.std.proofs.Common.{rules}
use Rattle.std.specs.Prelude.{nat_le}
use Rattle.std.proofs.lemmas.List.Sorted.{IsPartitionPoint-from_clause, IsPartitionedBy-leb}
use Rattle.cut_core.specs.declared.past.Past.{Past}
use Rattle.cut_core.proofs.past.count_to_position.Goals as goal

pub returns-clause-point : goal.returns-clause-point
returns-clause-point c =
    let past = c.args.past.now in
    let by_end = IsPartitionedBy-leb (λ (p : Past). p.end) past c.args.position c.requires in
    IsPartitionPoint-from_clause (λ (p : Past). nat_le p.end c.args.position) past _ c.partition_point.ensures.partitioned by_end (λ a r f h. search rules)

use Rattle.shard_log.proofs.LawLemmas.{numbers_are_consecutive, numbers_begin_with_first, logs_only_grow, copies_are_fronts}
use Rattle.shard_log.proofs.laws.log_laws.Goals as goal

pub returns-clause-consecutive : goal.returns-clause-consecutive
returns-clause-consecutive c = numbers_are_consecutive

pub returns-clause-first : goal.returns-clause-first
returns-clause-first c = numbers_begin_with_first

pub returns-clause-growth : goal.returns-clause-growth
returns-clause-growth c = logs_only_grow

pub returns-clause-copies : goal.returns-clause-copies
returns-clause-copies c = copies_are_fronts

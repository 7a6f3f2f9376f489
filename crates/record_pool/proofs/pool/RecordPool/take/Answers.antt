use Rattle.record_pool.proofs.PoolLemmas.{belongs_taken, bytes_taken, kept_taken}
use Rattle.record_pool.proofs.pool.RecordPool.take.Goals as goal

pub returns-clause-bytes : goal.returns-clause-bytes
returns-clause-bytes c =
    bytes_taken c.args.self.now c.take_first.new.self c.take_first.result c.args.bytes.now c.take_first.ensures.size c.take_first.ensures.len
    c.take_first.ensures.pool

pub returns-clause-belongs : goal.returns-clause-belongs
returns-clause-belongs c =
    belongs_taken c.args.self.now c.take_first.new.self c.take_first.result c.args.bytes.now c.take_first.ensures.size c.take_first.ensures.len
    c.take_first.ensures.pool

pub returns-clause-kept : goal.returns-clause-kept
returns-clause-kept c =
    kept_taken c.args.self.now c.take_first.new.self c.take_first.result.first _ _ c.take_first.ensures.fresh c.take_first.ensures.pool

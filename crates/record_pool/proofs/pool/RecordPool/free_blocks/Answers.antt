use Rattle.record_pool.proofs.PoolLemmas.{all_blocks}
use Rattle.record_pool.proofs.pool.RecordPool.free_blocks.Goals as goal

pub returns-clause-all : goal.returns-clause-all
returns-clause-all c =
    let i = c.self.inside in
    all_blocks i.blocks.items i.next.items i.counts.items i.head i.free c.args.self.now c.self.invariant c.self.view_is

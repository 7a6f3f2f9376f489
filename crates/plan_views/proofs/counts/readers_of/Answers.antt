use Rattle.std.proofs.Common.{rules, ◌<◌, length, arith}
use Rattle.plan_views.proofs.Counting.{counts_it, counts_other}
use Rattle.plan_views.proofs.counts.readers_of.Goals.{then-from-consumer, else-from-consumer}
use Rattle.plan_views.proofs.counts.readers_of.Goals as goal

pub loop-reader-preserved : goal.loop-reader-preserved
loop-reader-preserved c =
    let below : c.loop-reader.reader-index < length c.args.readers.now = search rules in
    let so_far = c.loop-reader.invariant.0 in
    let few = c.loop-reader.invariant.1 in
    elim c.if-from-consumer.branch [
      | then-from-consumer w ↦
          let is = w.count-is in (
            counts_it c.args.consumer c.from.result c.args.readers.now c.loop-reader.reader-index c.loop-reader.count c.if-from-consumer.count below
                c.from.ensures
                so_far w.if-from-consumer.true is,
            omega (arith, few, is),
          )
      | else-from-consumer w ↦
          let is = w.count-is in (
            counts_other c.args.consumer c.from.result c.args.readers.now c.loop-reader.reader-index c.loop-reader.count c.if-from-consumer.count below
                c.from.ensures so_far w.if-from-consumer.false is,
            omega (arith, few, is),
          )
    ]

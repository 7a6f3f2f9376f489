use Rattle.std.proofs.Common.{arith, rules}
use Rattle.shard_log.proofs.PlaceLemmas.{last_below_point}
use Rattle.shard_log.proofs.index.ClientIndex.last_below.Goals as goal

pub returns : goal.returns
returns c =
    let places = c.self.inside.places.items in
    let point = last_below_point c.args.end c.count_below-count.result places (omega arith) (search rules) in
    search (rules, point)

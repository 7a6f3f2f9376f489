use Rattle.std.proofs.Common.{◌∙◌, ◌++◌, ◌∷◌, [], ap}
use Rattle.shard_log.proofs.IndexLemmas.{IsIndex_push}
use Rattle.shard_log.proofs.index.ClientIndex.push.Goals as goal

pub invariant_of-self-2 : goal.invariant_of-self-2
invariant_of-self-2 c =
    let place = c.args.place in
    let above = rw (← c.self.view_is) at c.requires in
    IsIndex_push c.self.inside _ place c.self.invariant above
    (c.in-Ok.ensures.items ∙ ap (λ items. items ++ place ∷ []) c.reserve.ensures.items) c.in_ok-keep_first.ensures.ok

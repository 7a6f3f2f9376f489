use Rattle.std.proofs.Common.{get_or, set, sym, ap, ◌∙◌}
use Rattle.std.proofs.lemmas.List.{set-get_or}
use Rattle.node_actor.proofs.Pulling.{receiving_is}
use Rattle.node_actor.proofs.Results.{map_none}
use Rattle.node_actor.proofs.links.pull_at.Goals as goal

pub returns-clause-none : goal.returns-clause-none
returns-clause-none c =
    let ins = c.args.ins.now in
    let k = c.args.place in
    let d = c.index-ins-place.result in
    map_none c.pull.result
    (λ none. ap (set ins k) (receiving_is c.pull.new.self (get_or ins k d) c.pull.ensures.link none.0 (none.2 ∙ sym none.1)) ∙ set-get_or ins k d)
    c.pull.ensures.none

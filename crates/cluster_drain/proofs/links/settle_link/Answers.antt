use Rattle.std.proofs.Common.{◌<◌, get_or, set, arith, sym, ◌∙◌, subst}
use Rattle.std.proofs.lemmas.List.{get_or_default, set_comm}
use Rattle.node_actor.specs.Settling.{AreEnds}
use Rattle.cluster_drain.specs.inside.Pairs.{IsSettledPair}
use Rattle.cluster_drain.proofs.Pairs.{low_is, high_is, joined, own_is, pair_is}
use Rattle.cluster_drain.proofs.links.settle_link.Goals as goal

pub settle_between-requires : goal.settle_between-requires
settle_between-requires g c =
    let parts = c.split_at_mut-low.ensures in
    let a = c.index-low-from.result in
    let b = c.index-high-0.result in
    subst (λ x. AreEnds x.outs.items c.args.to (get_or c.split_at_mut-low.result.1.now 0 b).ins.items c.args.from)
    (sym (low_is c.args.actors.now c.split_at_mut-low.result.0.now c.args.to c.args.from a parts.front c.if-from-to-2.true))
    (subst (λ y. AreEnds (get_or c.args.actors.now c.args.from a).outs.items c.args.to y.ins.items c.args.from)
    (sym (high_is c.args.actors.now c.split_at_mut-low.result.1.now c.args.to b parts.back)) (c.requires.ends a b))

pub settle_between-requires-else-from-to-2 : goal.settle_between-requires-else-from-to-2
settle_between-requires-else-from-to-2 g c =
    let split = c.split_at_mut-low-else-from-to-2 in
    let parts = split.ensures in
    let a = c.index-high-0-else-from-to-2.result in
    let b = c.index-low-to.result in
    let low : c.args.to < c.args.from = omega (arith, c.if-from-to.false, c.if-from-to-2.false) in
    subst (λ x. AreEnds x.outs.items c.args.to (get_or split.result.0.now c.args.to b).ins.items c.args.from)
    (sym (high_is c.args.actors.now split.result.1.now c.args.from a parts.back))
    (subst (λ y. AreEnds (get_or c.args.actors.now c.args.from a).outs.items c.args.to y.ins.items c.args.from)
    (sym (low_is c.args.actors.now split.result.0.now c.args.from c.args.to b parts.front low)) (c.requires.ends a b))

pub returns-then-from-to : goal.returns-then-from-to
returns-then-from-to g c =
    let xs = c.args.actors.now in
    let d = c.index-actors-from.result in
    let is = c.settle_own.ensures in
    subst (λ n. IsSettledPair c.args.from n xs (set xs c.args.from c.settle_own.new.self)) c.if-from-to.true
    (own_is c.args.from xs (get_or xs c.args.from d) c.settle_own.new.self c.requires.from (λ e. get_or_default xs c.args.from e d c.requires.from)
    is.links is.settled)

pub returns-then-from-to-2 : goal.returns-then-from-to-2
returns-then-from-to-2 g c =
    let xs = c.args.actors.now in
    let split = c.split_at_mut-low in
    let parts = split.ensures in
    let a = c.index-low-from.result in
    let b = c.index-high-0.result in
    let s = c.settle_between.new.sender in
    let r = c.settle_between.new.receiver in
    let is = c.settle_between.ensures in
    let front = get_or split.result.0.now c.args.from a in
    let back = get_or split.result.1.now 0 b in
    pair_is c.args.from c.args.to xs _ front back s r c.if-from-to.false
    (λ d. get_or_default xs c.args.from d a c.requires.from ∙ sym (low_is xs split.result.0.now c.args.to c.args.from a parts.front c.if-from-to-2.true))
    (λ d. get_or_default xs c.args.to d b c.requires.to ∙ sym (high_is xs split.result.1.now c.args.to b parts.back))
    (joined xs split.result.0.now split.result.1.now c.args.from c.args.to s r parts.front parts.back c.if-from-to-2.true c.requires.to
    ∙ set_comm xs c.args.to c.args.from r s (λ e. c.if-from-to.false (sym e)))
    is.sender is.receiver is.settled

pub returns-else-from-to-2 : goal.returns-else-from-to-2
returns-else-from-to-2 g c =
    let xs = c.args.actors.now in
    let split = c.split_at_mut-low-else-from-to-2 in
    let parts = split.ensures in
    let a = c.index-high-0-else-from-to-2.result in
    let b = c.index-low-to.result in
    let s = c.settle_between-else-from-to-2.new.sender in
    let r = c.settle_between-else-from-to-2.new.receiver in
    let is = c.settle_between-else-from-to-2.ensures in
    let low : c.args.to < c.args.from = omega (arith, c.if-from-to.false, c.if-from-to-2.false) in
    let back = get_or split.result.1.now 0 a in
    let front = get_or split.result.0.now c.args.to b in
    pair_is c.args.from c.args.to xs _ back front s r c.if-from-to.false
    (λ d. get_or_default xs c.args.from d a c.requires.from ∙ sym (high_is xs split.result.1.now c.args.from a parts.back))
    (λ d. get_or_default xs c.args.to d b c.requires.to ∙ sym (low_is xs split.result.0.now c.args.from c.args.to b parts.front low))
    (joined xs split.result.0.now split.result.1.now c.args.to c.args.from r s parts.front parts.back low c.requires.from)
    is.sender is.receiver is.settled

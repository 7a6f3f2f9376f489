use Rattle.std.proofs.Common.{◌≡◌, ◌+◌, suc, ◌<◌, length, arith, sym, subst}
use Rattle.cluster_seats.specs.inside.Midway.{AreFirstBlanks}
use Rattle.cluster_seats.proofs.NewBlanks.{one_blank}
use Rattle.cluster_seats.proofs.blank.blanks.Goals as goal

pub loop-place-preserved : goal.loop-place-preserved
loop-place-preserved g c =
    let nodes = c.args.nodes.now in
    let count = length nodes in
    let made = c.loop-place.made.items in
    one_blank g.N.NodeModel c.args.cfg.now c.args.seed nodes count c.loop-place.place _ made c.push.new.self.items c.in_ok-blank_at.field-0
    c.loop-place-test.true c.in_ok-push.ensures.items c.in_ok-blank_at.ensures c.loop-place.invariant

use Rattle.std.proofs.Common.{◌<◌, length, arith, refl}
use Rattle.cluster_drain.proofs.Pairs.{ends_of, pair_drains, pair_settled, pair_stays, settled_below}
use Rattle.cluster_drain.proofs.Writing.{drains_itself, drains_then}
use Rattle.cluster_drain.proofs.settling.settle_from.Goals as goal

pub loop-to-init : goal.loop-to-init
loop-to-init g c = record {
  drains = drains_itself g.N.NodeModel g.D.Disk c.args.actors.now;
  done = λ to low. absurd (omega (arith, low));
  kept = λ from to was. was;
  end = refl;
}

pub settle_link-settled-requires : goal.settle_link-settled-requires
settle_link-settled-requires g c =
    let at = c.loop-to.invariant in
    let as_many = at.drains.as_many in
    let from : c.args.from < length c.loop-to.actors = omega (arith, c.requires.from, as_many) in
    let to : c.loop-to.to < length c.loop-to.actors = omega (arith, c.loop-to-test.true, at.end, as_many) in
    record { from = from; to = to; ends = ends_of c.args.from c.loop-to.to c.loop-to.actors (at.drains.can c.requires.can).linked from to }

pub loop-to-preserved : goal.loop-to-preserved
loop-to-preserved g c =
    let at = c.loop-to.invariant in
    let as_many = at.drains.as_many in
    let ys = c.loop-to.actors in
    let zs = c.settle_link-settled.new.actors in
    let from : c.args.from < length ys = omega (arith, c.requires.from, as_many) in
    let to : c.loop-to.to < length ys = omega (arith, c.loop-to-test.true, at.end, as_many) in
    let ends = ends_of c.args.from c.loop-to.to ys (at.drains.can c.requires.can).linked from to in
    let pair = c.settle_link-settled.ensures in
    let stays = pair_stays c.args.from c.loop-to.to ys zs pair ends from to in
    record {
      drains = drains_then g.N.NodeModel g.D.Disk c.args.actors.now ys zs at.drains
          (pair_drains g.N.NodeModel g.D.Disk c.args.from c.loop-to.to ys zs pair from to);
      done = settled_below c.args.from c.loop-to.to ys zs stays at.done (pair_settled c.args.from c.loop-to.to ys zs pair ends from to);
      kept = λ i j was. stays i j (at.kept i j was);
      end = at.end;
    }

pub returns-clause-settled : goal.returns-clause-settled
returns-clause-settled g c = λ to low. c.loop-to.invariant.done to (omega (arith, low, c.loop-to-test.false, c.loop-to.invariant.end))

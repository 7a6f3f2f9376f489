use Rattle.std.proofs.Common.{length, arith, refl}
use Rattle.cluster_drain.proofs.Pairs.{all_settled, rows_below}
use Rattle.cluster_drain.proofs.Writing.{drains_itself, drains_then}
use Rattle.cluster_drain.proofs.settling.settle_all.Goals as goal

pub loop-from-init : goal.loop-from-init
loop-from-init g c = record {
  drains = drains_itself g.N.NodeModel g.D.Disk c.args.actors.now;
  done = λ from low. absurd (omega (arith, low));
  end = refl;
}

pub settle_from-requires : goal.settle_from-requires
settle_from-requires g c =
    let at = c.loop-from.invariant in
    let as_many = at.drains.as_many in
    record { can = at.drains.can c.requires; from = omega (arith, c.loop-from-test.true, at.end, as_many) }

pub loop-from-preserved : goal.loop-from-preserved
loop-from-preserved g c =
    let at = c.loop-from.invariant in
    let as_many = at.drains.as_many in
    let is = c.settle_from.ensures in
    record {
      drains = drains_then g.N.NodeModel g.D.Disk c.args.actors.now c.loop-from.actors c.settle_from.new.actors at.drains is.drains;
      done = rows_below c.loop-from.from (length c.args.actors.now) c.loop-from.actors c.settle_from.new.actors is.kept at.done
          (λ to low. is.settled to (omega (arith, low, as_many)));
      end = at.end;
    }

pub returns-clause-settled : goal.returns-clause-settled
returns-clause-settled g c =
    let at = c.loop-from.invariant in
    all_settled c.loop-from.actors (λ from to low high. at.done from (omega (arith, low, at.drains.as_many, c.loop-from-test.false, at.end)) to
    (omega (arith, high, at.drains.as_many)))

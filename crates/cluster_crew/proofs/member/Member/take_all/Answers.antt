use Rattle.std.proofs.Common.{subst, sym, ◌∙◌, arith, IsTrue}
use Rattle.msg_wire.specs.Nodes.{is_client}
use Rattle.cluster_crew.specs.Posts.{Stays}
use Rattle.cluster_crew.proofs.Members.{acts_on, same_name, stays_then, turns_acts}
use Rattle.cluster_crew.proofs.member.Member.take_all.Goals.{then-eq, else-eq}
use Rattle.cluster_crew.proofs.member.Member.take_all.Goals as goal

pub take_held-left-requires-clause-at : goal.take_held-left-requires-clause-at
take_held-left-requires-clause-at g c =
    let can = turns_acts g.N.NodeModel g.D.Disk c.args.desks.now c.args.self.now c.requires.at in
    let stays = c.loop-by.invariant.stays in
    let name = same_name g.N.NodeModel g.D.Disk c.args.self.now c.loop-by.self can stays in
    let here = c.name.ensures in
    (acts_on g.N.NodeModel g.D.Disk c.args.self.now c.loop-by.self can stays, subst (λ n. IsTrue (is_client n)) (sym (name ∙ sym here ∙ c.in-Client.is)) cc)

pub loop-by-preserved : goal.loop-by-preserved
loop-by-preserved g c =
    let Stay = Stays g.N.NodeModel g.D.Disk c.args.self.now in
    let kept = c.loop-by.invariant in
    elim c.if-eq.branch [
      | then-eq w ↦ record {
        stays = subst Stay (sym w.self-is)
            (stays_then g.N.NodeModel g.D.Disk c.args.self.now c.loop-by.self w.take_held-left.new.self kept.stays w.take_held-left.ensures.stays);
        left = omega (arith, kept.left, w.left-is, w.take_held-left.ensures.left);
      }
      | else-eq w ↦ record { stays = subst Stay (sym w.self-is) kept.stays; left = omega (arith, kept.left, w.left-is) }
    ]

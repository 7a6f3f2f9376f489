use Rattle.std.proofs.Common.{rules}
use Rattle.plan_desks.proofs.Lines.{put_by}
use Rattle.plan_desks.proofs.bodies.add.Goals as goal

pub returns-in_ok-push_back-clause-bodies : goal.returns-in_ok-push_back-clause-bodies
returns-in_ok-push_back-clause-bodies c =
    rw c.in-Submit.is
    (put_by (λ q. q.items) c.args.all.now.items c.from.result c.in-Submit.by c.index_mut.result.now c.push_back.new.self c.in-Submit.body
    (search rules) (search rules) (search rules) (search rules))

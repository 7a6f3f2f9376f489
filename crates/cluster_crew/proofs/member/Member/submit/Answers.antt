use Rattle.cluster_crew.proofs.Members.{moved_shows, moved_then_shown}
use Rattle.cluster_crew.proofs.member.Member.submit.Goals as goal

pub show-requires : goal.show-requires
show-requires g c = moved_shows g.N.NodeModel g.D.Disk c.args.self.now c.submit-stepped.new.self c.requires.at.0 c.submit-stepped.ensures.moved

pub returns : goal.returns
returns g c =
    moved_then_shown g.N.NodeModel g.D.Disk c.args.self.now c.submit-stepped.new.self c.show.new.self c.submit-stepped.ensures.moved c.show.ensures.shown

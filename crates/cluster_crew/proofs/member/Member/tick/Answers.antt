use Rattle.cluster_crew.proofs.Members.{moved_shows, moved_then_shown}
use Rattle.cluster_crew.proofs.member.Member.tick.Goals as goal

pub show-requires : goal.show-requires
show-requires g c = moved_shows g.N.NodeModel g.D.Disk c.args.self.now c.tick-stepped.new.self c.requires c.tick-stepped.ensures.moved

pub returns-clause-stays : goal.returns-clause-stays
returns-clause-stays g c =
    moved_then_shown g.N.NodeModel g.D.Disk c.args.self.now c.tick-stepped.new.self c.show.new.self c.tick-stepped.ensures.moved c.show.ensures.shown

use Rattle.cluster_crew.proofs.Members.{moved_shows, moved_then_shown, stays_then, turns_acts, turns_on}
use Rattle.cluster_crew.proofs.member.Member.take_input.Goals as goal

pub show-requires : goal.show-requires
show-requires g c =
    moved_shows g.N.NodeModel g.D.Disk c.args.self.now c.take_frame-taken.new.self (turns_acts g.N.NodeModel g.D.Disk c.args.desks.now
    c.args.self.now c.requires)
    c.take_frame-taken.ensures.moved

pub take_body-taken-requires : goal.take_body-taken-requires
take_body-taken-requires g c =
    turns_on g.N.NodeModel g.D.Disk c.args.desks.now c.args.self.now c.show.new.self c.requires
    (moved_then_shown g.N.NodeModel g.D.Disk c.args.self.now c.take_frame-taken.new.self c.show.new.self c.take_frame-taken.ensures.moved c.show.ensures.shown)

pub returns-then-eq : goal.returns-then-eq
returns-then-eq g c =
    stays_then g.N.NodeModel g.D.Disk c.args.self.now c.show.new.self c.take_body-taken.new.self
    (moved_then_shown g.N.NodeModel g.D.Disk c.args.self.now c.take_frame-taken.new.self c.show.new.self c.take_frame-taken.ensures.moved c.show.ensures.shown)
    c.take_body-taken.ensures

pub returns-else-eq : goal.returns-else-eq
returns-else-eq g c =
    moved_then_shown g.N.NodeModel g.D.Disk c.args.self.now c.take_frame-taken.new.self c.show.new.self c.take_frame-taken.ensures.moved c.show.ensures.shown

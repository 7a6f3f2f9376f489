use Rattle.std.proofs.Common.{ap, sym, subst, ◌∙◌}
use Rattle.node_rules.specs.Turns.{turn_of}
use Rattle.node_rules.proofs.Lists.{on_ok}
use Rattle.seq_node.specs.Rules.{idle_longer, begin_when_idle}
use Rattle.seq_node.specs.inside.UnderWay.{IsUnderWay}
use Rattle.seq_node.proofs.UnderWays.{goes_idle}
use Rattle.seq_node.proofs.ticks.on_tick.Goals as goal

pub begin_when_idle-requires : goal.begin_when_idle-requires
begin_when_idle-requires c =
    subst IsUnderWay (sym (c.idle_longer.ensures c.tick.new.out ∙ ap idle_longer c.in_ok-tick.ensures)) (goes_idle (turn_of c.args.seq.now c.args.out.now) c.requires)

pub returns : goal.returns
returns c =
    on_ok c.begin_when_idle.result _ _ _ (ap begin_when_idle (c.idle_longer.ensures c.tick.new.out ∙ ap idle_longer c.in_ok-tick.ensures)) c.begin_when_idle.ensures

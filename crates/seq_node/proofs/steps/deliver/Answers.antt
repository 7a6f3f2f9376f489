use Rattle.std.proofs.Common.{refl, ap, sym, subst, ◌∙◌}
use Rattle.node_rules.specs.Names.events
use Rattle.node_rules.specs.Turns.{turn_of}
use Rattle.node_rules.proofs.Lists.{on_ok}
use Rattle.seq_node.specs.Steps.{handle, finish}
use Rattle.seq_node.specs.inside.UnderWay.{IsUnderWay}
use Rattle.seq_node.proofs.UnderWays.{goes_event}
use Rattle.seq_node.proofs.steps.deliver.Goals as goal

pub finish-requires : goal.finish-requires
finish-requires c =
    let event = events.Deliver c.args.message.now in
    subst IsUnderWay (sym (c.in_ok-heed.ensures ∙ ap (handle event) (ap (turn_of c.args.seq.now) c.requires.empty))) (goes_event c.args.seq.now event c.requires.sound c.requires.valid)

pub returns : goal.returns
returns c =
    let event = events.Deliver c.args.message.now in
    on_ok c.finish.result _ _ _ (ap (finish event) (c.in_ok-heed.ensures ∙ ap (handle event) (ap (turn_of c.args.seq.now) c.requires.empty))) (c.finish.ensures event refl)

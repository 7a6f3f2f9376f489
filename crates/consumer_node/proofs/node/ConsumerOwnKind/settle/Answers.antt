use Rattle.std.proofs.Common.{subst, sym, ap, ◌∙◌}
use Rattle.consumer_node.specs.Apps.{meaning}
use Rattle.consumer_node.specs.Restart.{closed_by}
use Rattle.consumer_node.specs.Sound.{IsConsumer}
use Rattle.consumer_node.proofs.Items.{restart_sound}
use Rattle.consumer_node.proofs.node.ConsumerOwnKind.settle.Goals as goal

pub returns-clause-sound : goal.returns-clause-sound
returns-clause-sound g c =
    let app = meaning g.A.App.fresh_state g.A.App.next_state g.A.App.output_of in
    let from = c.requires in
    subst IsConsumer (sym (c.close.ensures ∙ ap closed_by from.is)) (restart_sound app from.cfg from.me from.items from.valid from.here from.each)

use Rattle.std.proofs.Common.{subst, sym}
use Rattle.consumer_node.specs.Apps.{meaning}
use Rattle.consumer_node.specs.Sound.{IsConsumer}
use Rattle.consumer_node.proofs.Lives.{fresh_sound}
use Rattle.consumer_node.proofs.node.ConsumerOwnKind.fresh.Goals as goal

pub returns-clause-sound : goal.returns-clause-sound
returns-clause-sound g c =
    let app = meaning g.A.App.fresh_state g.A.App.next_state g.A.App.output_of in
    subst IsConsumer (sym c.in_ok-consumer.ensures) (fresh_sound app c.args.cfg.now c.args.me c.requires.valid c.requires.node)

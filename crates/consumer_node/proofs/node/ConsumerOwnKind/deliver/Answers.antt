use Rattle.std.proofs.Common.{◌≡◌, sym, subst}
use Rattle.node_rules.specs.Names.{Event}
use Rattle.node_rules.specs.Names.events
use Rattle.node_rules.specs.Turns.{Turn}
use Rattle.msg_wire.specs.Steps.{AreValidMessages}
use Rattle.consumer_node.specs.Apps.{meaning}
use Rattle.consumer_node.specs.States.{ConsumerState}
use Rattle.consumer_node.specs.Sound.{IsConsumer}
use Rattle.consumer_node.proofs.Lives.{kept_step}
use Rattle.consumer_node.proofs.node.ConsumerOwnKind.deliver.Goals as goal

pub returns-clause-sound : goal.returns-clause-sound
returns-clause-sound g c =
    let app = meaning g.A.App.fresh_state g.A.App.next_state g.A.App.output_of in
    let event : Event = events.Deliver c.args.message.now in
    subst (λ (t : Turn (ConsumerState g.row.A.Denot)). IsConsumer t.state) (sym c.in_ok-deliver.ensures.turn) (kept_step app c.args.consumer.now event c.requires.sound c.requires.valid).sound

pub returns-clause-valid : goal.returns-clause-valid
returns-clause-valid g c =
    let app = meaning g.A.App.fresh_state g.A.App.next_state g.A.App.output_of in
    let event : Event = events.Deliver c.args.message.now in
    record {
      stable = c.in_ok-deliver.ensures.stable;
      sends = subst (λ (t : Turn (ConsumerState g.row.A.Denot)). AreValidMessages t.sends) (sym c.in_ok-deliver.ensures.turn) (kept_step app c.args.consumer.now event c.requires.sound c.requires.valid).given.sends;
    }

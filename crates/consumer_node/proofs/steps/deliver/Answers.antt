use Rattle.std.proofs.Common.{◌≡◌, ap, sym, subst, ◌∙◌}
use Rattle.std.specs.Prelude.{OnOk}
use Rattle.node_rules.specs.Names.{Event}
use Rattle.node_rules.specs.Names.events
use Rattle.node_rules.specs.Turns.{Turn, turn_of, started}
use Rattle.msg_wire.specs.Valid.{AreValidItems}
use Rattle.consumer_node.specs.Apps.{meaning}
use Rattle.consumer_node.specs.States.{ConsumerState}
use Rattle.consumer_node.specs.Speculation.{finish}
use Rattle.consumer_node.specs.Steps.{handle}
use Rattle.consumer_node.specs.Sound.{IsConsumer}
use Rattle.consumer_node.proofs.Lives.{kept_handle, stable_handle}
use Rattle.consumer_node.proofs.steps.deliver.Goals as goal

pub finish-requires : goal.finish-requires
finish-requires g c =
    let app = meaning g.A.App.fresh_state g.A.App.next_state g.A.App.output_of in
    let n = c.args.consumer.now in
    let event : Event = events.Deliver c.args.message.now in
    let start : turn_of n c.args.out.now ≡ started n = ap (turn_of n) c.requires.empty in
    let done : turn_of c.heed.new.self c.heed.new.out ≡ handle event (started n) = c.in_ok-heed.ensures ∙ ap (handle event) start in
    record { sound = subst (λ (t : Turn (ConsumerState g.row.A.Denot)). IsConsumer t.state) (sym done) (kept_handle app n event c.requires.sound c.requires.valid).sound }

pub returns : goal.returns
returns g c =
    let app = meaning g.A.App.fresh_state g.A.App.next_state g.A.App.output_of in
    let n = c.args.consumer.now in
    let event : Event = events.Deliver c.args.message.now in
    let start : turn_of n c.args.out.now ≡ started n = ap (turn_of n) c.requires.empty in
    let done : turn_of c.heed.new.self c.heed.new.out ≡ handle event (started n) = c.in_ok-heed.ensures ∙ ap (handle event) start in
    record {
      turn = subst (λ (t : Turn (ConsumerState g.row.A.Denot)). OnOk c.finish.result (turn_of c.finish.new.consumer c.finish.new.out ≡ finish app t)) done c.finish.ensures.turn;
      stable = c.finish.ensures.valid (subst (λ (t : Turn (ConsumerState g.row.A.Denot)). AreValidItems t.stable) (sym done) (stable_handle app n event c.requires.sound c.requires.valid));
    }

use Rattle.std.proofs.Common.{◌≡◌, ◌==◌, ◌&&◌, Bool, true, false, refl, ap, sym, subst, ◌∙◌}
use Rattle.std.specs.Prelude.{OnOk}
use Rattle.std.proofs.lemmas.Bool.{cond-false}
use Rattle.msg_wire.specs.Nodes.{number_of}
use Rattle.node_rules.specs.Names.{Event}
use Rattle.node_rules.specs.Names.events
use Rattle.node_rules.specs.Nodes.{Node}
use Rattle.node_rules.specs.Turns.{turn_of, started, me_of}
use Rattle.node_rules.proofs.Lists.{on_ok}
use Rattle.seq_node.specs.States.{SequencerState}
use Rattle.seq_node.specs.Steps.{handle, finish, ends_with_beginning, sequencer_step}
use Rattle.seq_node.specs.Restart.{reset_of}
use Rattle.std.proofs.lemmas.Bool.{cond-false}
use Rattle.seq_node.proofs.steps.react.Goals as goal

and_false : (a b : Bool) → b ≡ false → (a && b) ≡ false
and_false true b none = none
and_false false b none = refl

-- an event whose step does not end with a beginning
by_itself : (n : Node SequencerState) (event : Event) → ends_with_beginning event ≡ false → handle event (started n) ≡ finish event (handle event (started n))
by_itself n event none = sym (cond-false _ _ _ (and_false (number_of (me_of (handle event (started n))) == 0) (ends_with_beginning event) none))

pub returns-in-Deliver : goal.returns-in-Deliver
returns-in-Deliver c =
    subst (λ (event : Event). OnOk c.deliver.result (turn_of c.deliver.new.seq c.deliver.new.out ≡ sequencer_step c.args.seq.now event)) (sym c.in-Deliver.is) c.deliver.ensures

pub returns-in-Command : goal.returns-in-Command
returns-in-Command c =
    let n = c.args.seq.now in
    let event = events.Command c.in-Command.command in
    on_ok c.take_command.result _ _ _ (ap (handle event) (ap (turn_of n) c.requires.empty) ∙ by_itself n event refl ∙ ap (sequencer_step n) (sym c.in-Command.is)) c.take_command.ensures

pub returns-in-Tick : goal.returns-in-Tick
returns-in-Tick c =
    let n = c.args.seq.now in
    on_ok c.on_tick.result _ _ _ (ap (handle events.Tick) (ap (turn_of n) c.requires.empty) ∙ by_itself n events.Tick refl ∙ ap (sequencer_step n) (sym c.in-Tick.is)) c.on_tick.ensures

pub returns-in-Restart : goal.returns-in-Restart
returns-in-Restart c =
    let n = c.args.seq.now in
    ap (λ (m : Node SequencerState). turn_of m c.args.out.now) c.reset.ensures
    ∙ ap (turn_of (reset_of n)) c.requires.empty ∙ ap (sequencer_step n) (sym c.in-Restart.is)

pub returns-in-Submit : goal.returns-in-Submit
returns-in-Submit c =
    let n = c.args.seq.now in
    let event = events.Submit c.in-Submit.by c.in-Submit.body in
    on_ok c.finish.result _ _ _ (ap (finish event) (ap (turn_of n) c.requires.empty) ∙ ap (sequencer_step n) (sym c.in-Submit.is)) (c.finish.ensures event refl)

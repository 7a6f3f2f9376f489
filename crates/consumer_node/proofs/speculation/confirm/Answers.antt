use Rattle.std.proofs.Common.{◌≡◌, Some, sym, ◌∙◌}
use Rattle.cut_core.specs.Map.{located}
use Rattle.node_rules.specs.Nodes.{agreed_by}
use Rattle.consumer_node.specs.Apps.{meaning}
use Rattle.consumer_node.proofs.Loops.{on_ok}
use Rattle.consumer_node.proofs.Lives.{confirmed_sound, oldest_valid}
use Rattle.consumer_node.proofs.speculation.confirm.Goals as goal

pub show_confirmed-requires : goal.show_confirmed-requires
show_confirmed-requires g c = record { rec = oldest_valid c.args.consumer.now c.in-Some-confirm.rec _ c.in-Some-confirm.ensures.oldest c.requires.sound }

pub returns-clause-sound : goal.returns-clause-sound
returns-clause-sound g c =
    let app = meaning g.A.App.fresh_state g.A.App.next_state g.A.App.output_of in
    let n = c.args.consumer.now in
    let here : located (agreed_by n.base) n.own.confirmed ≡ Some c.in-Some.owner = sym c.next_covered.ensures.owner ∙ c.in-Some.is in
    on_ok c.show_confirmed.result _ (confirmed_sound app n c.in-Some-confirm.rec c.in-Some.owner c.confirm.new.self here c.in-Some-confirm.ensures.state c.requires.sound)

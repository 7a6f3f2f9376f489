use Rattle.std.proofs.Common.{subst, sym}
use Rattle.node_rules.proofs.Kept.{IsKept}
use Rattle.client_node.proofs.Sound.{client_keeping, step_sound, step_valid}
use Rattle.client_node.proofs.node.ClientOwnKind.react.Goals as goal

pub returns-clause-sound : goal.returns-clause-sound
returns-clause-sound c =
    (subst (IsKept client_keeping c.args.client.now) (sym c.in_ok-react.ensures) (step_sound c.args.client.now (c.args.event.now) c.requires.sound c.requires.valid)).is

pub returns-clause-valid : goal.returns-clause-valid
returns-clause-valid c = step_valid c.args.client.now c.react.new.client (c.args.event.now) c.react.new.out c.requires.sound c.requires.valid c.in_ok-react.ensures

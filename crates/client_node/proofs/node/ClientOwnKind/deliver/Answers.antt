use Rattle.std.proofs.Common.{subst, sym}
use Rattle.node_rules.specs.Names.events
use Rattle.node_rules.proofs.Kept.{IsKept}
use Rattle.client_node.proofs.Sound.{client_keeping, step_sound, step_valid}
use Rattle.client_node.proofs.node.ClientOwnKind.deliver.Goals as goal

pub returns-clause-sound : goal.returns-clause-sound
returns-clause-sound c =
    (subst (IsKept client_keeping c.args.client.now) (sym c.in_ok-deliver.ensures) (step_sound c.args.client.now (events.Deliver c.args.message.now) c.requires.sound c.requires.valid)).is

pub returns-clause-valid : goal.returns-clause-valid
returns-clause-valid c = step_valid c.args.client.now c.deliver.new.client (events.Deliver c.args.message.now) c.deliver.new.out c.requires.sound c.requires.valid c.in_ok-deliver.ensures

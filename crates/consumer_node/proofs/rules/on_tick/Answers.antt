use Rattle.std.proofs.Common.{◌≡◌, subst}
use Rattle.std.specs.Prelude.{OnOk}
use Rattle.node_rules.specs.Turns.{turn_of}
use Rattle.consumer_node.specs.Rules.{fetch_some}
use Rattle.consumer_node.proofs.rules.on_tick.Goals as goal

pub returns : goal.returns
returns g c =
    subst (λ t. OnOk c.fetch_some.result (turn_of c.tick.new.self c.fetch_some.new.out ≡ fetch_some t)) c.in_ok-tick.ensures c.fetch_some.ensures

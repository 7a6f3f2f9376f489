use Rattle.output_gate.proofs.GateLemmas.{only_taken}
use Rattle.consumer_node.proofs.state.release.Goals as goal

pub returns-in-Some-clause-gate : goal.returns-in-Some-clause-gate
returns-in-Some-clause-gate c =
    let taken = c.in-Some.ensures in
    only_taken c.args.position c.in-Some.kept c.args.gate.now c.take_oldest.new.self taken.0 taken.1 c.requires

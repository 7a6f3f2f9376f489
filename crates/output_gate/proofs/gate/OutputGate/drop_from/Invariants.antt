use Rattle.std.proofs.Common.{◌≡◌, length}
use Rattle.output_gate.specs.Gates.{gate_below}
use Rattle.output_gate.proofs.gate.OutputGate.drop_from.Given as goal

abbrev pub decreases-loop : goal.decreases-loop
decreases-loop l = length l.self.held

abbrev pub invariant-loop : goal.invariant-loop
invariant-loop l = gate_below l.self l.position ≡ gate_below l.fn.self l.position

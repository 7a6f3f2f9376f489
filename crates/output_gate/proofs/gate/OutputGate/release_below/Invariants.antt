use Rattle.std.proofs.Common.{◌≡◌, ◌≤◌, ◌+◌, ◌++◌, length}
use Rattle.app_law.specs.Positions.{below}
use Rattle.output_gate.specs.Gates.{out_position, gate_from}
use Rattle.output_gate.proofs.gate.OutputGate.release_below.Given as goal

abbrev pub decreases-loop-kept : goal.decreases-loop-kept
decreases-loop-kept l = length l.self.held

abbrev pub invariant-loop-kept : goal.invariant-loop-kept
invariant-loop-kept l = record {
  gate : gate_from l.self l.position ≡ gate_from l.fn.self l.position;
  released : l.into ++ below out_position l.position l.self.held ≡ l.fn.into ++ below out_position l.position l.fn.self.held;
  room : length l.into + length (below out_position l.position l.self.held) ≤ 3;
}

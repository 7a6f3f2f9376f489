use Rattle.std.proofs.Common.{sym}
use Rattle.app_law.proofs.PositionLemmas.{IsRising_push}
use Rattle.output_gate.specs.Gates.{out_position}
use Rattle.output_gate.proofs.gate.OutputGate.hold.Goals as goal

pub invariant_of-self : goal.invariant_of-self
invariant_of-self c =
    let past = rw (sym c.self.view_is) at c.requires.past in
    rw c.push_back_reserved.ensures.items (IsRising_push out_position c.self.inside.held.items (record { position = c.args.position; out = c.args.out }) c.self.invariant past)

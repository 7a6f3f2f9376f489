use Rattle.std.proofs.Common.{sym, ◌∙◌}
use Rattle.output_gate.proofs.GateLemmas.{below_all}
use Rattle.output_gate.proofs.gate.OutputGate.drop_from.Goals as goal

pub returns : goal.returns
returns c =
    let t = rw c.loop-test.false at c.drop_newest.ensures in
    t.0 ∙ (sym (below_all c.args.position c.loop.self t.1) ∙ c.loop.invariant)

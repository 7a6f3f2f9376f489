use Rattle.msg_wire.specs.Steps.{AreValidMessages}
use Rattle.net_model.specs.Pasts.{past_of, sent}
use Rattle.report_text.proofs.tests.tick_up_to.Given as goal

abbrev pub invariant-loop-tick : goal.invariant-loop-tick
invariant-loop-tick l = AreValidMessages (sent (past_of l.history))

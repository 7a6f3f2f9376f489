use Rattle.std.proofs.Common.{◌≡◌, take}
use Rattle.net_model.specs.Merges.{values_of}
use Rattle.net_model.proofs.merges.steps_of.Given as goal

abbrev pub invariant-loop-step : goal.invariant-loop-step
invariant-loop-step l = values_of l.all.items ≡ take l.step-index l.steps

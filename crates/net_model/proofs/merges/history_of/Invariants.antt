use Rattle.std.proofs.Common.{◌≡◌, map, take}
use Rattle.net_model.specs.Merges.{entry_of, values_of}
use Rattle.net_model.proofs.merges.history_of.Given as goal

abbrev pub invariant-loop-step : goal.invariant-loop-step
invariant-loop-step l = l.history ≡ map entry_of (values_of (take l.step-index l.steps))

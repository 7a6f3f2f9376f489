-- Small steps, as the steps that they stand for.
use Rattle.net_model.specs.declared.steps.KeptStep.{KeptStep}
use Rattle.net_model.specs.declared.steps.Taken.{Taken}
use Rattle.net_model.specs.declared.steps.Taken.TheVariants as kept
use Rattle.net_model.specs.declared.steps.SmallStep.{SmallStep}
use Rattle.net_model.specs.declared.steps.SmallTaken.{SmallTaken}
use Rattle.net_model.specs.declared.steps.SmallTaken.TheVariants as small

abbrev pub wide_taken : SmallTaken → Taken
wide_taken (small.Message number) = kept.Message number
wide_taken (small.Whole place) = kept.Whole place
wide_taken small.Tick = kept.Tick
wide_taken small.Restart = kept.Restart

abbrev pub wide_step : SmallStep → KeptStep
wide_step s = record { node = s.node; taken = wide_taken s.taken; sends_end = s.sends_end; marks_end = s.marks_end }

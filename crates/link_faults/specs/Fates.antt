-- What a word says of a message.
use Rattle.std.specs.Prelude.{ℕ, ◌+◌, ◌%◌, nat_lt, if◌then◌else◌}
pub use Rattle.link_faults.specs.declared.plan.FaultPlan.{FaultPlan}
pub use Rattle.link_faults.specs.declared.fate.Fate.{Fate}
pub use Rattle.link_faults.specs.declared.fate.Fate.TheVariants as fates

-- the first that fits of a number from 0 to 99
abbrev pub fate_at : FaultPlan → ℕ → Fate
fate_at plan value =
    if nat_lt value plan.lose then fates.Lost
    else if nat_lt value (plan.lose + plan.repeat) then fates.Twice
    else if nat_lt value (plan.lose + plan.repeat + plan.late) then fates.Late
    else if nat_lt value (plan.lose + plan.repeat + plan.late + plan.cut) then fates.Cut
    else fates.Once

abbrev pub fate_of : FaultPlan → ℕ → Fate
fate_of plan word = fate_at plan (word % 100)

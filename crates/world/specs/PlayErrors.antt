-- Why inputs are refused.
use Rattle.std.specs.Prelude.{◌≡◌, List, Some}
use Rattle.world.specs.declared.errors.PlayError.{PlayError}
use Rattle.world.specs.declared.errors.PlayError.TheVariants as faults
use Rattle.runs.specs.Names.{Config, Input}
use Rattle.world.specs.Playing.{play_fault}

-- an error is of the first input that is refused; want of memory may come at any time
abbrev pub IsRefusal : Config → List Input → PlayError → Type 0
IsRefusal cfg given faults.OutOfMemory = Unit {0}
IsRefusal cfg given (faults.NoMessage at number sent) = play_fault cfg given ≡ Some (faults.NoMessage at number sent)
IsRefusal cfg given (faults.TooLong at) = play_fault cfg given ≡ Some (faults.TooLong at)

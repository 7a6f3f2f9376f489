-- Why a plan has no run.
use Rattle.std.specs.Prelude.{⊤, Option, Some, None, Result, Ok, Err}
use Rattle.speclog.specs.declared.fault.Fault.{Fault}
use Rattle.speclog.specs.declared.fault.Fault.TheVariants.{Script, TooLong, ShelfFault, OutOfMemory}

-- the fault of a disk, or want of memory
abbrev pub IsStop : Fault → Type 0
IsStop (ShelfFault name) = ⊤
IsStop OutOfMemory = ⊤
IsStop _ = ⊥

-- that, or a line that is refused
abbrev pub IsBeforeWriting : Fault → Type 0
IsBeforeWriting (Script line kind) = ⊤
IsBeforeWriting (TooLong line) = ⊤
IsBeforeWriting fault = IsStop fault

-- the fault of an answer
abbrev pub fault_in : {T : Type 0} → Result T Fault → Option Fault
fault_in (Ok _) = None
fault_in (Err fault) = Some fault

-- What an attempt to write a generated plan puts out.
use Rattle.std.specs.Prelude.{◌≡◌, ◌⊎◌, ℕ, List, Option, Some, None}
use Rattle.std.specs.Io.KnownBytes.{append_known}
use Rattle.script_text.specs.Generated.{generated_plan}
use Rattle.speclog.specs.declared.fault.Fault.{Fault}
use Rattle.speclog.specs.declared.fault.Fault.TheVariants.{OutOfMemory, WriteFault}
use Rattle.speclog.specs.Writes.{Taken, BeginsToWrite}

-- the whole plan, a beginning of it where the sink failed, or nothing or a beginning where memory was refused; there is no other answer
abbrev pub WritesPlan : ℕ → ℕ → Option Fault → Taken → Type 0
WritesPlan seed size None taken = taken.after ≡ append_known taken.before (generated_plan seed size)
WritesPlan seed size (Some WriteFault) taken = BeginsToWrite taken (generated_plan seed size)
WritesPlan seed size (Some OutOfMemory) taken = (taken.after ≡ taken.before) ⊎ BeginsToWrite taken (generated_plan seed size)
WritesPlan seed size (Some _) taken = ⊥

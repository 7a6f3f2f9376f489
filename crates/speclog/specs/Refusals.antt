-- Which line of a text is refused, and why. Lines are judged one after another: a line that the grammar refuses counts where
-- no input before it is refused as the script is played.
use Rattle.std.specs.Prelude.{◌≡◌, ◌<◌, ℕ, nat_le, if◌then◌else◌, List, length, drop, slice_get, Option, Some, None, Result, Ok, Err}
use Rattle.std.specs.Option.{option_map, option_map_or, option_or}
use Rattle.world.specs.Playing.{play_fault}
use Rattle.world.specs.declared.errors.PlayError.{PlayError}
use Rattle.world.specs.declared.errors.PlayError.TheVariants as play_errors
use Rattle.script_text.specs.Names.{Config, Input, Plan}
use Rattle.script_text.specs.declared.errors.ScriptError.{ScriptError}
use Rattle.script_text.specs.declared.errors.ScriptError.TheVariants as script_errors
use Rattle.script_text.specs.Lines.{Line, numbers_of, counted_lines}
use Rattle.script_text.specs.Scripts.{lines_before}
use Rattle.script_text.specs.Reading.{Refusal, script_in, lines_in}
use Rattle.script_text.specs.ReadingPlans.{plan_in}
use Rattle.speclog.specs.declared.fault.Fault.{Fault}
use Rattle.speclog.specs.declared.fault.Fault.TheVariants.{Script, NoMessage, TooLong, OutOfMemory}

-- what refuses an input, at the line of the input; want of memory refuses none
abbrev pub at_line : List ℕ → PlayError → Option Fault
at_line numbers (play_errors.NoMessage at number sent) = option_map (λ line. NoMessage line number sent) (slice_get numbers at)
at_line numbers (play_errors.TooLong at) = option_map (λ line. TooLong line) (slice_get numbers at)
at_line numbers play_errors.OutOfMemory = None

-- the first input that is refused as inputs on these lines are played
abbrev pub fault_of_play : Config → List Input → List ℕ → Option Fault
fault_of_play cfg given numbers = option_map_or (at_line numbers) (play_fault cfg given) None

-- of lines that count: where they spell a script, and play refuses one of its inputs
abbrev pub fault_of_script : List Line → Result (Config × List Input) Refusal → Option Fault
fault_of_script lines (Ok script) = fault_of_play script.0 script.1 (numbers_of (drop 6 lines))
fault_of_script lines (Err refusal) = None

-- of the lines before a line, where the head is among them
abbrev pub fault_before : ℕ → List ℕ → Option Fault
fault_before line text =
    if nat_le 6 (length (lines_before line text)) then fault_of_script (lines_before line text) (lines_in line (lines_before line text)) else None

abbrev pub fault_of_reading : Result (Config × List Input) Refusal → List ℕ → Option Fault
fault_of_reading (Ok script) text = fault_of_play script.0 script.1 (numbers_of (drop 6 (counted_lines text)))
fault_of_reading (Err refusal) text = option_or (fault_before refusal.0 text) (Some (Script refusal.0 refusal.1))

-- the first line of a text that is refused, and why
abbrev pub refusal_of : List ℕ → Option Fault
refusal_of text = fault_of_reading (script_in text) text

-- ---- of a plan

abbrev pub fault_of_reading_plan : Result Plan ScriptError → Option Fault
fault_of_reading_plan (Ok plan) = None
fault_of_reading_plan (Err (script_errors.At line kind)) = Some (Script line kind)
fault_of_reading_plan (Err (script_errors.TooLong line)) = Some (TooLong line)
fault_of_reading_plan (Err script_errors.OutOfMemory) = None

-- the first line of a plan's text that is refused, and why
abbrev pub plan_refusal_of : List ℕ → Option Fault
plan_refusal_of text = fault_of_reading_plan (plan_in text)

-- ---- what the code's functions say

-- a fault says which line is refused, unless memory was
abbrev pub RefusesWith : Fault → Option Fault → Type 0
RefusesWith OutOfMemory refusal = Unit {0}
RefusesWith fault refusal = refusal ≡ Some fault

-- the input that is refused is one of so many
abbrev pub IsWithin : ℕ → PlayError → Type 0
IsWithin count (play_errors.NoMessage at number sent) = at < count
IsWithin count (play_errors.TooLong at) = at < count
IsWithin count play_errors.OutOfMemory = Unit {0}

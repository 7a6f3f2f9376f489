-- What an answer of the program says.
use Rattle.std.specs.Prelude.{◌≡◌, ◌↔◌, ◌⊎◌, ℕ, ◌<◌, Bool, true, false, IsTrue, not, ◌&&◌, List, length, Option, Some, None}
use Rattle.std.specs.Io.KnownBytes.{prepend_known, IsAtEnd}
use Rattle.spec_base.specs.Faults.{RoseByOne}
use Rattle.cluster_run.specs.declared.record.RunRecord.{RunRecord}
use Rattle.runs.specs.Names.{HistoryEntry}
use Rattle.speclog.specs.declared.fault.Fault.{Fault}
use Rattle.speclog.specs.declared.fault.Fault.TheVariants.{Usage, ReadFault, InputTooLong, Script, NoMessage, TooLong as too_many_entries, OutOfMemory}
use Rattle.speclog.specs.declared.fault.Fault.TheVariants.{WriteFault, ShelfFault}
use Rattle.speclog.specs.declared.input.ReadError.{ReadError}
use Rattle.speclog.specs.declared.input.ReadError.TheVariants.{Failed, TooLong, OutOfMemory as read_out_of_memory}
use Rattle.speclog.specs.Refusals.{refusal_of, plan_refusal_of}
use Rattle.speclog.specs.Plays.{Plays}
use Rattle.speclog.specs.Runs.{Runs}
use Rattle.speclog.specs.Words.{is_gen, is_run}
use Rattle.speclog.specs.Writes.{Taken, Writes}

-- the exit status of each fault
abbrev pub status_of_fault : Fault → ℕ
status_of_fault (Usage word) = 2
status_of_fault ReadFault = 4
status_of_fault InputTooLong = 3
status_of_fault (Script line kind) = 3
status_of_fault (NoMessage line number sent) = 3
status_of_fault (too_many_entries line) = 3
status_of_fault OutOfMemory = 6
status_of_fault WriteFault = 5
status_of_fault (ShelfFault name) = 7

-- the exit status of a command: 0 where it met no fault
abbrev pub status_of : Option Fault → ℕ
status_of None = 0
status_of (Some fault) = status_of_fault fault

-- ---- words

-- the place of a fault in the words
abbrev pub usage_of : Option Fault → Option ℕ
usage_of (Some (Usage word)) = Some word
usage_of _ = None

-- ---- reading

-- the fault that ends a command whose input was not read to its end
abbrev pub fault_of_read : ReadError → Fault
fault_of_read Failed = ReadFault
fault_of_read TooLong = InputTooLong
fault_of_read read_out_of_memory = OutOfMemory

-- the answer speaks of the whole input: it was read to its end
abbrev pub is_of_whole_input : Option Fault → Bool
is_of_whole_input (Some (Usage word)) = false
is_of_whole_input (Some ReadFault) = false
is_of_whole_input (Some InputTooLong) = false
is_of_whole_input (Some OutOfMemory) = false
is_of_whole_input _ = true

-- ---- counts of faults

abbrev pub is_read_fault : Option Fault → Bool
is_read_fault (Some ReadFault) = true
is_read_fault _ = false

abbrev pub is_write_fault : Option Fault → Bool
is_write_fault (Some WriteFault) = true
is_write_fault _ = false

-- the answer blames a disk
abbrev pub is_shelf_fault : Option Fault → Bool
is_shelf_fault (Some (ShelfFault name)) = true
is_shelf_fault _ = false

-- a count over a command: one more where the answer blames its object, and else as it was
abbrev pub CountsBlame : Bool → ℕ → ℕ → Type 0
CountsBlame true old new = RoseByOne old new
CountsBlame false old new = new ≡ old

-- ---- playing

-- of `play` and `run`: the script was played to its end, or the plan run, at the statuses 0 and 5
abbrev pub has_history : Option Fault → Bool
has_history None = true
has_history (Some WriteFault) = true
has_history _ = false

-- a command of these words that ends so gives a history
abbrev pub gives_history : List (List ℕ) → Option Fault → Bool
gives_history words fault = not (is_gen words) && has_history fault

-- it gives what its readers saw
abbrev pub gives_looks : List (List ℕ) → Option Fault → Bool
gives_looks words fault = is_run words && has_history fault

-- nothing was asked of the sink: the statuses 2, 3, 4 and 7
abbrev pub is_unwritten : Option Fault → Bool
is_unwritten None = false
is_unwritten (Some WriteFault) = false
is_unwritten (Some OutOfMemory) = false
is_unwritten _ = true

-- what the answer says of the lines: which one is refused, and why
abbrev pub refusal_in : Option Fault → Option Fault
refusal_in (Some (Script line kind)) = Some (Script line kind)
refusal_in (Some (NoMessage line number sent)) = Some (NoMessage line number sent)
refusal_in (Some (too_many_entries line)) = Some (too_many_entries line)
refusal_in _ = None

-- ---- the whole answer

-- what a source had left before a command, and what it has left at its end
pub record Left : Type 0 where
  pub before : Option (List ℕ)
  pub after : Option (List ℕ)

-- what an answer says of the input, of which these bytes were read, and of the sink: too many bytes exactly where it says so;
-- where it speaks of the whole input, all of them, with the first refused line exactly where it names one; at the statuses 0
-- and 5 what the text makes; and what was written, of which nothing is out before all was read
pub record SpeaksOf {T : Type 0} (refusal : List ℕ → Option Fault) (Makes : List ℕ → T → List ℕ → Type 0) (left : Left) (taken : Taken)
    (fault : Option Fault) (made : Option T) : Type 0 where
  pub read : List ℕ
  pub given : left.before ≡ prepend_known read left.after
  pub too_long : (fault ≡ Some InputTooLong) ↔ (16777216 < length read)
  pub whole : IsTrue (is_of_whole_input fault) → IsAtEnd left.after
  pub refused : IsTrue (is_of_whole_input fault) → refusal_in fault ≡ refusal read
  pub written : Writes Makes fault made read taken
  pub begun : fault ≡ Some OutOfMemory → (taken.after ≡ taken.before) ⊎ IsAtEnd left.after

-- an answer of `play`
abbrev pub SpeaksOfScript : Left → Taken → Option Fault → Option (List HistoryEntry) → Type 0
SpeaksOfScript = SpeaksOf refusal_of Plays

-- an answer of `run`
abbrev pub SpeaksOfPlan : Left → Taken → Option Fault → Option RunRecord → Type 0
SpeaksOfPlan = SpeaksOf plan_refusal_of Runs

-- an answer that can come once the input was read to its end
abbrev pub is_after_reading : Option Fault → Bool
is_after_reading (Some (Usage word)) = false
is_after_reading (Some ReadFault) = false
is_after_reading (Some InputTooLong) = false
is_after_reading _ = true

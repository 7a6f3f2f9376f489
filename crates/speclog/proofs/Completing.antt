-- A script that can be played is played, and a plan is run.
use Rattle.std.proofs.Common.{◌≡◌, ◌⊎◌, ℕ, IsTrue, IsFalse, List, ◌++◌, drop, Option, Some, None, Result, Ok, Err, refl, sym, ap, ◌∙◌, subst, inl, inr, append-nil, true, false}
use Rattle.spec_base.specs.declared.node.NodeId.{NodeId}
use Rattle.std.specs.Io.KnownBytes.{prepend_known, IsAtEnd}
use Rattle.std.specs.Option.{option_map_or}
use Rattle.script_text.specs.Names.{Config, Input, Plan}
use Rattle.script_text.specs.declared.errors.ScriptError.{ScriptError}
use Rattle.script_text.specs.declared.errors.ScriptError.TheVariants as script_errors
use Rattle.script_text.specs.Lines.{numbers_of, counted_lines, whole, end_of}
use Rattle.script_text.specs.Scripts.{SpellsScript}
use Rattle.script_text.specs.Plans.{SpellsPlan}
use Rattle.script_text.specs.ReadingPlans.{Answers, ReadsPlan, plan_in}
use Rattle.script_text.proofs.PlanTaken.{plan_only}
use Rattle.script_text.proofs.ScriptLemmas.{lines_in_back}
use Rattle.world.specs.Playing.{play_fault}
use Rattle.speclog.specs.declared.fault.Fault.{Fault}
use Rattle.speclog.specs.declared.fault.Fault.TheVariants.{Usage, ReadFault, InputTooLong, Script, NoMessage, TooLong, ShelfFault, OutOfMemory, WriteFault}
use Rattle.speclog.specs.Refusals.{at_line, fault_of_reading, fault_of_reading_plan, plan_refusal_of, refusal_of}
use Rattle.speclog.specs.Answers.{is_of_whole_input, is_after_reading, is_shelf_fault, refusal_in}

-- what was read to its end is all there was
read_whole : (text read : List ℕ) (after : Option (List ℕ)) → Some text ≡ prepend_known read after → IsAtEnd after → text ≡ read
read_whole text read None e end = absurd cc
read_whole text read (Some rest) e end =
    let all : text ≡ read ++ rest = cc in
    all ∙ (ap (λ (xs : List ℕ). read ++ xs) end ∙ append-nil read)

-- no line is refused
none_refused : (text : List ℕ) (cfg : Config) (given : List Input) (numbers : List ℕ) → SpellsScript text cfg given numbers → play_fault cfg given ≡ None
    → refusal_of text ≡ None
none_refused text cfg given numbers s accepted =
    ap (λ r. fault_of_reading r text) (lines_in_back (end_of (whole text)) (counted_lines text) cfg given numbers s)
    ∙ ap (λ f. option_map_or (at_line (numbers_of (drop 6 (counted_lines text)))) f None) accepted

-- what can end a command whose input isn't refused
abbrev LeftAs : Option Fault → Type 0
LeftAs fault = (fault ≡ None) ⊎ (fault ≡ Some OutOfMemory) ⊎ ((name : NodeId) × (fault ≡ Some (ShelfFault name)))

left_as : (fault : Option Fault) → IsTrue (is_after_reading fault) → (IsTrue (is_of_whole_input fault) → refusal_in fault ≡ None)
    → (fault ≡ Some WriteFault → ⊥) → LeftAs fault
left_as None after none sink = inl refl
left_as (Some (Usage word)) after none sink = absurd cc
left_as (Some ReadFault) after none sink = absurd cc
left_as (Some InputTooLong) after none sink = absurd cc
left_as (Some (Script line kind)) after none sink = absurd (let bad = none refl in cc)
left_as (Some (NoMessage line number known)) after none sink = absurd (let bad = none refl in cc)
left_as (Some (TooLong line)) after none sink = absurd (let bad = none refl in cc)
left_as (Some (ShelfFault name)) after none sink = inr (inr (name, refl))
left_as (Some OutOfMemory) after none sink = inr (inl refl)
left_as (Some WriteFault) after none sink = absurd (sink refl)

-- where no disk is blamed, memory alone
memory_alone : (fault : Option Fault) → IsFalse (is_shelf_fault fault) → LeftAs fault → (fault ≡ None) ⊎ (fault ≡ Some OutOfMemory)
memory_alone fault no_disk (inl none) = inl none
memory_alone fault no_disk (inr (inl memory)) = inr memory
memory_alone fault no_disk (inr (inr (name, disk))) = absurd (let bad : true ≡ false = subst (λ f. is_shelf_fault f ≡ false) disk no_disk in cc)

-- of an input that isn't refused
unless_refused : (refusal : List ℕ → Option Fault) (text bytes read : List ℕ) (left : Option (List ℕ)) (fault : Option Fault)
    → Some text ≡ prepend_known read left → IsAtEnd left → bytes ≡ read → refusal text ≡ None
    → IsTrue (is_after_reading fault) → (IsTrue (is_of_whole_input fault) → refusal_in fault ≡ refusal bytes) → (fault ≡ Some WriteFault → ⊥)
    → LeftAs fault
unless_refused refusal text bytes read left fault taken end same accepted after refused sink =
    let all : text ≡ bytes = read_whole text read left taken end ∙ sym same in
    let none : refusal bytes ≡ None = subst (λ (t : List ℕ). refusal t ≡ None) all accepted in
    left_as fault after (λ h. refused h ∙ none) sink

pub certainly_played : (text bytes read : List ℕ) (left : Option (List ℕ)) (cfg : Config) (given : List Input) (numbers : List ℕ) (fault : Option Fault)
    → Some text ≡ prepend_known read left → IsAtEnd left → bytes ≡ read → SpellsScript text cfg given numbers → play_fault cfg given ≡ None
    → IsTrue (is_after_reading fault) → IsFalse (is_shelf_fault fault) → (IsTrue (is_of_whole_input fault) → refusal_in fault ≡ refusal_of bytes)
    → (fault ≡ Some WriteFault → ⊥) → (fault ≡ None) ⊎ (fault ≡ Some OutOfMemory)
certainly_played text bytes read left cfg given numbers fault taken end same s accepted after no_disk refused sink =
    memory_alone fault no_disk (unless_refused refusal_of text bytes read left fault taken end same (none_refused text cfg given numbers s accepted) after refused sink)

-- ---- a plan

itself : (r : Result Plan ScriptError) → Answers (λ (p : Plan). p) r r
itself (Ok p) = refl
itself (Err (script_errors.At line kind)) = refl
itself (Err (script_errors.TooLong line)) = refl
itself (Err script_errors.OutOfMemory) = tt

read_plan_none : (p : Plan) (r : Result Plan ScriptError) → ReadsPlan p r → fault_of_reading_plan r ≡ None
read_plan_none p (Ok q) reads = refl
read_plan_none p (Err e) reads = ap (λ e. fault_of_reading_plan (Err e)) reads

-- no line is refused
plan_accepted : (text : List ℕ) (p : Plan) → SpellsPlan text p → plan_refusal_of text ≡ None
plan_accepted text p s = read_plan_none p (plan_in text) (plan_only text (plan_in text) (itself (plan_in text)) p s)

pub certainly_run : (text bytes read : List ℕ) (left : Option (List ℕ)) (p : Plan) (fault : Option Fault)
    → Some text ≡ prepend_known read left → IsAtEnd left → bytes ≡ read → SpellsPlan text p
    → IsTrue (is_after_reading fault) → (IsTrue (is_of_whole_input fault) → refusal_in fault ≡ plan_refusal_of bytes) → (fault ≡ Some WriteFault → ⊥)
    → (fault ≡ None) ⊎ (fault ≡ Some OutOfMemory) ⊎ ((name : NodeId) × (fault ≡ Some (ShelfFault name)))
certainly_run text bytes read left p fault taken end same s after refused sink =
    unless_refused plan_refusal_of text bytes read left fault taken end same (plan_accepted text p s) after refused sink

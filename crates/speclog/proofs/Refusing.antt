-- Which line is refused, where the script before it was played.
use Rattle.std.proofs.Common.{◌≡◌, ℕ, ◌≤◌, Bool, true, false, nat_le, if◌then◌else◌, List, length, Option, Some, None, Ok, Err, refl, sym, ap, ◌∙◌, subst, arith}
use Rattle.std.specs.Option.{option_or, option_map_or}
use Rattle.std.proofs.lemmas.Bool.Decides.{nat_tests}
use Rattle.script_text.specs.Names.{Config, Input}
use Rattle.script_text.specs.declared.kind.ScriptKind.{ScriptKind}
use Rattle.script_text.specs.Scripts.{SpellsLines, lines_before}
use Rattle.script_text.specs.Reading.{script_in, lines_in}
use Rattle.script_text.proofs.ScriptLemmas.{lines_in_back}
use Rattle.world.specs.Playing.{play_fault}
use Rattle.speclog.specs.declared.fault.Fault.{Fault}
use Rattle.speclog.specs.declared.fault.Fault.TheVariants.{Usage, ReadFault, InputTooLong, Script, NoMessage, TooLong, ShelfFault, OutOfMemory, WriteFault}
use Rattle.speclog.specs.Refusals.{at_line, fault_of_play, fault_of_script, fault_before, fault_of_reading, refusal_of, RefusesWith}

-- ---- a text that the grammar refuses

refused_is : (text : List ℕ) (line : ℕ) (kind : ScriptKind) → script_in text ≡ Err (line, kind)
    → refusal_of text ≡ option_or (fault_before line text) (Some (Script line kind))
refused_is text line kind e = ap (λ r. fault_of_reading r text) e

six_stand : (b : Bool) (o p : Option Fault) → b ≡ true → (if b then o else p) ≡ o
six_stand true o p e = refl
six_stand false o p e = absurd cc

-- the lines before it spell a script
before_is : (text : List ℕ) (line : ℕ) (cfg : Config) (given : List Input) (numbers : List ℕ) → 6 ≤ length (lines_before line text)
    → SpellsLines (lines_before line text) cfg given numbers → fault_before line text ≡ fault_of_play cfg given numbers
before_is text line cfg given numbers six s =
    let lines = lines_before line text in
    let read : lines_in line lines ≡ Ok (cfg, given) = lines_in_back line lines cfg given numbers s in
    let stand : nat_le 6 (length lines) ≡ true = grind (arith, nat_tests, six) in
    six_stand (nat_le 6 (length lines)) (fault_of_script lines (lines_in line lines)) None stand
    ∙ (ap (λ r. fault_of_script lines r) read ∙ ap (λ (ns : List ℕ). fault_of_play cfg given ns) (sym s.numbers_are))

-- where its inputs can be played, the line is the first that is refused
pub accepted_before : (text : List ℕ) (line : ℕ) (kind : ScriptKind) (cfg : Config) (given : List Input) (numbers : List ℕ) → script_in text ≡ Err (line, kind)
    → 6 ≤ length (lines_before line text) → SpellsLines (lines_before line text) cfg given numbers → play_fault cfg given ≡ None
    → refusal_of text ≡ Some (Script line kind)
accepted_before text line kind cfg given numbers e six s accepted =
    let none : fault_before line text ≡ None = before_is text line cfg given numbers six s ∙ ap (λ f. option_map_or (at_line numbers) f None) accepted in
    refused_is text line kind e ∙ ap (λ o. option_or o (Some (Script line kind))) none

-- else the first of them that cannot is
refuses_first : (fault : Fault) (o p : Option Fault) → RefusesWith fault o → RefusesWith fault (option_or o p)
refuses_first OutOfMemory o p r = tt
refuses_first (Usage word) o p r = ap (λ x. option_or x p) r
refuses_first (ShelfFault name) o p r = ap (λ x. option_or x p) r
refuses_first ReadFault o p r = ap (λ x. option_or x p) r
refuses_first InputTooLong o p r = ap (λ x. option_or x p) r
refuses_first (Script line kind) o p r = ap (λ x. option_or x p) r
refuses_first (NoMessage line number known) o p r = ap (λ x. option_or x p) r
refuses_first (TooLong line) o p r = ap (λ x. option_or x p) r
refuses_first WriteFault o p r = ap (λ x. option_or x p) r

pub refused_before : (text : List ℕ) (line : ℕ) (kind : ScriptKind) (cfg : Config) (given : List Input) (numbers : List ℕ) (fault : Fault)
    → script_in text ≡ Err (line, kind) → 6 ≤ length (lines_before line text) → SpellsLines (lines_before line text) cfg given numbers
    → RefusesWith fault (fault_of_play cfg given numbers) → RefusesWith fault (refusal_of text)
refused_before text line kind cfg given numbers fault e six s r =
    let whole : refusal_of text ≡ option_or (fault_of_play cfg given numbers) (Some (Script line kind)) =
    refused_is text line kind e ∙ ap (λ o. option_or o (Some (Script line kind))) (before_is text line cfg given numbers six s) in
    subst (RefusesWith fault) (sym whole) (refuses_first fault (fault_of_play cfg given numbers) (Some (Script line kind)) r)

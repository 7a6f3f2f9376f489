-- The input that is refused is one of those that were given, and each input of a script has a line.
use Rattle.std.proofs.Common.{◌≡◌, ℕ, suc, ◌+◌, ◌<◌, Bool, true, false, nat_lt, nat_le, if◌then◌else◌, List, [], ◌∷◌, length, drop, Option, Some, None, refl, sym, ap, ◌∙◌, subst, arith}
use Rattle.std.specs.Option.{option_or}
use Rattle.std.proofs.lemmas.List.{length-map}
use Rattle.std.proofs.lemmas.Slice.Zip.{AllZip-long}
use Rattle.net_model.specs.Pasts.{sent}
use Rattle.script_text.specs.Names.{Config, Input}
use Rattle.script_text.specs.Names.inputs
use Rattle.script_text.specs.Lines.{Line}
use Rattle.script_text.specs.Scripts.{SpellsLines}
use Rattle.script_text.specs.Spelled.{SpellsInput}
use Rattle.world.specs.declared.errors.PlayError.{PlayError}
use Rattle.world.specs.declared.errors.PlayError.TheVariants.{NoMessage, TooLong, OutOfMemory}
use Rattle.world.specs.Playing.{Playing, nothing_played, message_fault, length_fault, input_fault, played_unless, fault_from, play_fault, entries_of}
use Rattle.world.specs.PlayErrors.{IsRefusal}
use Rattle.speclog.specs.Refusals.{IsWithin}

-- the fault is of the input at this place
abbrev IsAt : ℕ → PlayError → Type 0
IsAt at (NoMessage place number count) = place ≡ at
IsAt at (TooLong place) = place ≡ at
IsAt at OutOfMemory = Unit {0}

-- ---- the place of a fault

refused_at : (at : ℕ) (b : Bool) (made e : PlayError) → IsAt at made → (if b then None else Some made) ≡ Some e → IsAt at e
refused_at at true made e here h = absurd cc
refused_at at false made e here h = let same : made ≡ e = cc in subst (IsAt at) same here

message_at : (at : ℕ) (p : Playing) (given : Input) (e : PlayError) → message_fault at p given ≡ Some e → IsAt at e
message_at at p (inputs.Deliver number) e h = refused_at at (nat_lt number (length (sent p.past))) (NoMessage at number (length (sent p.past))) e refl h
message_at at p (inputs.Lose number) e h = refused_at at (nat_lt number (length (sent p.past))) (NoMessage at number (length (sent p.past))) e refl h
message_at at p (inputs.Submit client body) e h = absurd cc
message_at at p (inputs.Tick node) e h = absurd cc
message_at at p (inputs.Restart node) e h = absurd cc
message_at at p (inputs.Command node command) e h = absurd cc
message_at at p (inputs.Drain count) e h = absurd cc

-- one of two that may be there
either_at : (at : ℕ) (first second : Option PlayError) (e : PlayError) → ((f : PlayError) → first ≡ Some f → IsAt at f)
    → ((f : PlayError) → second ≡ Some f → IsAt at f) → option_or first second ≡ Some e → IsAt at e
either_at at None second e one two h = two e h
either_at at (Some f) second e one two h = one e h

input_at : (at : ℕ) (p : Playing) (given : Input) (e : PlayError) → input_fault at p given ≡ Some e → IsAt at e
input_at at p given e h =
    either_at at (message_fault at p given) (length_fault at p given) e (message_at at p given) (λ f. refused_at at (nat_le (length p.past + entries_of given) 200000) (TooLong at) f refl) h

-- ---- it is the place of an input

here_is_within : (at count : ℕ) (e : PlayError) → at < count → IsAt at e → IsWithin count e
here_is_within at count (NoMessage place number known) below here = omega (arith)
here_is_within at count (TooLong place) below here = omega (arith)
here_is_within at count OutOfMemory below here = tt

step_within : (at count : ℕ) (fault rest : Option PlayError) (e : PlayError) → ((f : PlayError) → fault ≡ Some f → IsAt at f)
    → ((f : PlayError) → rest ≡ Some f → IsWithin (at + 1 + count) f) → option_or fault rest ≡ Some e → IsWithin (at + suc count) e
step_within at count (Some f) rest e here later h = here_is_within at (at + suc count) e (omega (arith)) (here e h)
step_within at count None rest e here later h = let same : at + 1 + count ≡ at + suc count = omega (arith) in subst (λ n. IsWithin n e) same (later e h)

is_within : (cfg : Config) (at : ℕ) (p : Playing) (given : List Input) (e : PlayError) → fault_from cfg at p given ≡ Some e → IsWithin (at + length given) e
is_within cfg at p [] e h = absurd cc
is_within cfg at p (first ∷ later) e h =
    let next = played_unless (input_fault at p first) cfg p first in
    step_within at (length later) (input_fault at p first) (fault_from cfg (at + 1) next later) e (input_at at p first) (is_within cfg (at + 1) next later) h

-- an input that is refused is one of those that were given
pub refused_within : (cfg : Config) (given : List Input) (e : PlayError) → play_fault cfg given ≡ Some e → IsWithin (length given) e
refused_within cfg given e h = let same : 0 + length given ≡ length given = omega (arith) in subst (λ count. IsWithin count e) same (is_within cfg 0 nothing_played given e h)

-- what `play` answers
pub refusal_within : (cfg : Config) (given : List Input) (e : PlayError) → IsRefusal cfg given e → IsWithin (length given) e
refusal_within cfg given (NoMessage place number known) r = refused_within cfg given (NoMessage place number known) r
refusal_within cfg given (TooLong place) r = refused_within cfg given (TooLong place) r
refusal_within cfg given OutOfMemory r = tt

-- ---- lines

-- each input has a line
pub lines_as_many : (lines : List Line) (cfg : Config) (given : List Input) (numbers : List ℕ) → SpellsLines lines cfg given numbers
    → length numbers ≡ length given
lines_as_many lines cfg given numbers s =
    ap (λ (xs : List ℕ). length xs) s.numbers_are ∙ (length-map (drop 6 lines) (λ (l : Line). l.number) ∙ sym (AllZip-long (λ (l : Line). SpellsInput l.bytes) (drop 6 lines) given s.inputs_are))

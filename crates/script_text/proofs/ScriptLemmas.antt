-- What whole scripts spell, and what is judged of them.
use Rattle.std.proofs.Common.{◌≡◌, ℕ, zero, suc, List, [], ◌∷◌, take, drop, Result, Ok, Err, IfOk, refl, sym, ap, subst, ◌∙◌}
use Rattle.std.specs.List.{AllByRecursion, AllZip}
use Rattle.record_codec.specs.Reading.{◌>>=◌}
use Rattle.record_codec.proofs.Reading.{bind_ok, ok_is}
use Rattle.msg_wire.specs.Valid.{IsValidConfig}
use Rattle.msg_wire.specs.Inputs.{IsInputOf}
use Rattle.script_text.specs.Names.{Config, Input, ScriptKind}
use Rattle.script_text.specs.declared.script.Script.{Script}
use Rattle.script_text.specs.declared.errors.ScriptError.{ScriptError}
use Rattle.script_text.specs.declared.errors.ScriptError.TheVariants as script_errors
use Rattle.script_text.specs.Lines.{Line, numbers_of, counted_lines, whole, end_of}
use Rattle.script_text.specs.Spelled.{script_word, SpellsInput}
use Rattle.script_text.specs.Scripts.{SpellsLines, SpellsScript}
use Rattle.script_text.specs.Judged.{input_in}
use Rattle.script_text.specs.Reading.{Refusal, on_line, head_in, inputs_in, lines_in, script_in}
use Rattle.script_text.specs.Answers.{Gives, Fails, Reads}
use Rattle.script_text.proofs.HeadLemmas.{IsPlain, head_in_ok, head_in_back}
use Rattle.script_text.proofs.InputSpelled.{input_in_ok, input_in_back}

-- ---- the head

pub head_valid : (due : List ℕ) (end : ℕ) (lines rest : List Line) (r : Result Config ScriptError) → Gives (λ (c : Config). (c, rest)) r (head_in due end lines)
    → IfOk r IsValidConfig
head_valid due end lines rest (Ok c) g = (head_in_ok due end lines (c, rest) g).valid
head_valid due end lines rest (Err e) g = tt

pub head_rest : (due : List ℕ) (end : ℕ) (lines rest : List Line) (r : Result Config ScriptError) → Gives (λ (c : Config). (c, rest)) r (head_in due end lines)
    → IfOk r (λ _. rest ≡ drop 6 lines)
head_rest due end lines rest (Ok c) g = (head_in_ok due end lines (c, rest) g).rest_is
head_rest due end lines rest (Err e) g = tt

-- ---- the inputs

-- lines of which each spells an input of the cluster
record SpellsInputs (c : Config) (lines : List Line) (inputs : List Input) : Type 0 where
  plain : AllByRecursion IsPlain lines
  spelled : AllZip (λ (l : Line). SpellsInput l.bytes) lines inputs
  within : AllByRecursion (IsInputOf c) inputs

on_line_ok : {A : Type 0} (number : ℕ) (j : Result A ScriptKind) (x : A) → on_line number j ≡ Ok x → j ≡ Ok x
on_line_ok number (Ok y) x e = ap Ok (ok_is Refusal y x e)
on_line_ok number (Err kind) x e = absurd cc

inputs_in_ok : (c : Config) (lines : List Line) (inputs : List Input) → inputs_in c lines ≡ Ok inputs → SpellsInputs c lines inputs
inputs_in_ok c [] inputs e = subst (SpellsInputs c []) (ok_is Refusal [] inputs e) (record { plain = tt; spelled = tt; within = tt })
inputs_in_ok c (l ∷ lines) inputs e =
    let a = bind_ok (on_line l.number (input_in c l.bytes)) (λ first. inputs_in c lines >>= λ others. Ok (first ∷ others)) inputs e in
    let b = bind_ok (inputs_in c lines) (λ others. Ok (a.0 ∷ others)) inputs a.2 in
    let h = input_in_ok c l.bytes a.0 (on_line_ok l.number (input_in c l.bytes) a.0 a.1) in
    let rest = inputs_in_ok c lines b.0 b.1 in
    subst (SpellsInputs c (l ∷ lines)) (ok_is Refusal (a.0 ∷ b.0) inputs b.2)
    (record { plain = (h.0, rest.plain); spelled = (h.1, rest.spelled); within = (h.2, rest.within) })

inputs_in_back : (c : Config) (lines : List Line) (inputs : List Input) → AllByRecursion IsPlain lines → AllZip (λ (l : Line). SpellsInput l.bytes) lines inputs
    → AllByRecursion (IsInputOf c) inputs → inputs_in c lines ≡ Ok inputs
inputs_in_back c [] [] p z h = refl
inputs_in_back c [] (x ∷ inputs) p z h = absurd z
inputs_in_back c (l ∷ lines) [] p z h = absurd z
inputs_in_back c (l ∷ lines) (x ∷ inputs) p z h =
    rw (input_in_back c l.bytes x p.0 z.0 h.0, inputs_in_back c lines inputs p.1 z.1 h.1) refl

-- ---- all lines

pub plain_joined : (n : ℕ) (lines : List Line) → AllByRecursion IsPlain (take n lines) → AllByRecursion IsPlain (drop n lines) → AllByRecursion IsPlain lines
plain_joined zero lines front rest = rest
plain_joined (suc n) [] front rest = tt
plain_joined (suc n) (l ∷ lines) front rest = (front.0, plain_joined n lines front.1 rest)

pub plain_front : (n : ℕ) (lines : List Line) → AllByRecursion IsPlain lines → AllByRecursion IsPlain (take n lines)
plain_front zero lines p = tt
plain_front (suc n) [] p = tt
plain_front (suc n) (l ∷ lines) p = (p.0, plain_front n lines p.1)

pub plain_rest : (n : ℕ) (lines : List Line) → AllByRecursion IsPlain lines → AllByRecursion IsPlain (drop n lines)
plain_rest zero lines p = p
plain_rest (suc n) [] p = tt
plain_rest (suc n) (l ∷ lines) p = plain_rest n lines p.1

pub lines_in_ok : (end : ℕ) (lines : List Line) (c : Config) (inputs : List Input) → lines_in end lines ≡ Ok (c, inputs)
    → SpellsLines lines c inputs (numbers_of (drop 6 lines))
unfolding lines_in
lines_in_ok end lines c inputs e =
    let a = bind_ok (head_in script_word end lines) (λ head. inputs_in head.0 head.1 >>= λ xs. Ok (head.0, xs)) (c, inputs) e in
    let b = bind_ok (inputs_in a.0.0 a.0.1) (λ xs. Ok (a.0.0, xs)) (c, inputs) a.2 in
    let same : (a.0.0, b.0) ≡ (c, inputs) = ok_is Refusal (a.0.0, b.0) (c, inputs) b.2 in
    let head = head_in_ok script_word end lines a.0 a.1 in
    let rest : SpellsInputs a.0.0 (drop 6 lines) b.0 = subst (λ (t : List Line). SpellsInputs a.0.0 t b.0) head.rest_is (inputs_in_ok a.0.0 a.0.1 b.0 b.1) in
    let P : Config × List Input → Type 0 = λ q. SpellsLines lines q.0 q.1 (numbers_of (drop 6 lines)) in
    subst P same (record {
      printable = plain_joined 6 lines head.plain rest.plain;
      head = head.head;
      config = head.valid;
      inputs_are = rest.spelled;
      within = rest.within;
      numbers_are = refl;
    })

pub lines_in_back : (end : ℕ) (lines : List Line) (c : Config) (inputs : List Input) (numbers : List ℕ) → SpellsLines lines c inputs numbers
    → lines_in end lines ≡ Ok (c, inputs)
unfolding lines_in
lines_in_back end lines c inputs numbers s =
    rw (head_in_back script_word end lines c (plain_front 6 lines s.printable) s.head s.config, inputs_in_back c (drop 6 lines) inputs (plain_rest 6 lines s.printable) s.inputs_are s.within) refl

-- ---- texts

pub script_found : (text : List ℕ) (r : Result Script ScriptError) → Gives (λ (s : Script). (s.cfg, s.inputs)) r (script_in text)
    → IfOk r (λ s. s.lines ≡ numbers_of (drop 6 (counted_lines text))) → IfOk r (λ s. SpellsScript text s.cfg s.inputs s.lines)
script_found text (Ok s) g n =
    let P : List ℕ → Type 0 = λ numbers. SpellsScript text s.cfg s.inputs numbers in
    subst P (sym n) (lines_in_ok (end_of (whole text)) (counted_lines text) s.cfg s.inputs g)
script_found text (Err e) g n = tt

only_memory : (c : Config) (inputs : List Input) (e : ScriptError) (reading : Result (Config × List Input) Refusal) → reading ≡ Ok (c, inputs) → Fails e reading
    → e ≡ script_errors.OutOfMemory
only_memory c inputs (script_errors.At line kind) reading ok bad = absurd cc
only_memory c inputs (script_errors.TooLong line) reading ok bad = absurd bad
only_memory c inputs script_errors.OutOfMemory reading ok bad = refl

pub script_only : (text : List ℕ) (r : Result Script ScriptError) → Gives (λ (s : Script). (s.cfg, s.inputs)) r (script_in text)
    → IfOk r (λ s. s.lines ≡ numbers_of (drop 6 (counted_lines text))) → (c : Config) (inputs : List Input) (numbers : List ℕ)
    → SpellsScript text c inputs numbers → Reads c inputs numbers r
script_only text (Ok s) g n c inputs numbers h =
    let read = lines_in_back (end_of (whole text)) (counted_lines text) c inputs numbers h in
    let same : (s.cfg, s.inputs) ≡ (c, inputs) = ok_is Refusal (s.cfg, s.inputs) (c, inputs) (sym g ∙ read) in
    (ap (λ (q : Config × List Input). q.0) same, ap (λ (q : Config × List Input). q.1) same, n ∙ sym h.numbers_are)
script_only text (Err e) g n c inputs numbers h =
    only_memory c inputs e (script_in text) (lines_in_back (end_of (whole text)) (counted_lines text) c inputs numbers h) g

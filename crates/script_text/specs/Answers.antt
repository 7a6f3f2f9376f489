-- What a function answered, seen by a view: what is judged, unless memory ran out.
use Rattle.std.specs.Prelude.{◌≡◌, ℕ, List, Result, Ok, Err}
use Rattle.script_text.specs.Names.{Config, Input, ScriptKind}
use Rattle.script_text.specs.declared.script.Script.{Script}
use Rattle.script_text.specs.declared.errors.LineError.{LineError}
use Rattle.script_text.specs.declared.errors.LineError.TheVariants as line_errors
use Rattle.script_text.specs.declared.errors.ScriptError.{ScriptError}
use Rattle.script_text.specs.declared.errors.ScriptError.TheVariants as script_errors
use Rattle.script_text.specs.Judged.{Judged}
use Rattle.script_text.specs.Reading.{Refusal}

-- where no memory is taken
abbrev pub Tells : {X Y : Type 0} → (X → Y) → Result X ScriptKind → Judged Y → Type 0
Tells view (Ok x) judged = judged ≡ Ok (view x)
Tells view (Err kind) judged = judged ≡ Err kind

-- of a line
abbrev pub Refuses : {Y : Type 0} → LineError → Judged Y → Type 0
Refuses (line_errors.Refused kind) judged = judged ≡ Err kind
Refuses line_errors.OutOfMemory judged = Unit {0}

abbrev pub Says : {X : Type 0} → Result X LineError → Judged X → Type 0
Says (Ok x) judged = judged ≡ Ok x
Says (Err e) judged = Refuses e judged

-- of a text
abbrev pub Fails : {Y : Type 0} → ScriptError → Result Y Refusal → Type 0
Fails (script_errors.At line kind) reading = reading ≡ Err (line, kind)
Fails (script_errors.TooLong line) reading = ⊥
Fails script_errors.OutOfMemory reading = Unit {0}

abbrev pub Gives : {X Y : Type 0} → (X → Y) → Result X ScriptError → Result Y Refusal → Type 0
Gives view (Ok x) reading = reading ≡ Ok (view x)
Gives view (Err e) reading = Fails e reading

-- an error of a line, at the line's number
abbrev pub placed : ℕ → LineError → ScriptError
placed number (line_errors.Refused kind) = script_errors.At number kind
placed number line_errors.OutOfMemory = script_errors.OutOfMemory

-- what a text spells was read, unless memory ran out
abbrev pub Reads : Config → List Input → List ℕ → Result Script ScriptError → Type 0
Reads c inputs numbers (Ok s) = (s.cfg ≡ c) × (s.inputs ≡ inputs) × (s.lines ≡ numbers)
Reads c inputs numbers (Err e) = e ≡ script_errors.OutOfMemory

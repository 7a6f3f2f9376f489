-- The text of a plan judged line by line: the plan that it spells, or the first line that is refused and why. Of a line the grammar is judged first,
-- and then whether the entries that the plan may bring pass the limit with it.
use Rattle.std.specs.Prelude.{◌≡◌, ℕ, ◌+◌, nat_lt, if◌then◌else◌, List, [], ◌∷◌, length, Result, Ok, Err}
use Rattle.record_codec.specs.Reading.{◌>>=◌}
use Rattle.msg_wire.specs.Valid.{node_count, line_entries}
use Rattle.script_text.specs.Names.{Config, Plan, PlanLine, ScriptError}
use Rattle.script_text.specs.Names.script_errors
use Rattle.script_text.specs.declared.plan_head.Faults.{Faults}
use Rattle.script_text.specs.Lines.{Line, counted_lines, whole, end_of}
use Rattle.script_text.specs.Spelled.{plan_word}
use Rattle.script_text.specs.Reading.{Refusal, on_line, due_line, head_in}
use Rattle.script_text.specs.JudgedPlans.{readers_in, submitters_in, faults_in, limits_in, plan_line_in}

-- a refusal by the grammar is one of the two kinds of refusal
abbrev pub by_grammar : {A : Type 0} → Result A Refusal → Result A ScriptError
by_grammar (Ok x) = Ok x
by_grammar (Err refusal) = Err (script_errors.At refusal.0 refusal.1)

-- a plan that has its head alone
abbrev pub headed : Config → List ℕ → List ℕ → Faults → ℕ × ℕ → Plan
headed c readers submitters f limits = record {
  cfg = c;
  readers = readers;
  submitters = submitters;
  seed = f.seed;
  lose = f.lose;
  repeat = f.repeat;
  late = f.late;
  cut = f.cut;
  limit = limits.0;
  settle = limits.1;
  lines = [];
}

-- the ten lines of the head, and the lines after them
unfoldable pub plan_head_in : ℕ → List Line → Result (Plan × List Line) Refusal
plan_head_in end lines = do
  head ← head_in plan_word end lines
  readers ← due_line end (readers_in head.0.consumers) head.1
  submitters ← due_line end (submitters_in (length head.0.homes)) readers.1
  faults ← due_line end faults_in submitters.1
  limits ← due_line end limits_in faults.1
  Ok (headed head.0 readers.0 submitters.0 faults.0 limits.0, limits.1)

-- so many entries with the line of a number
abbrev pub within_limit : ℕ → ℕ → Result ℕ ScriptError
within_limit number entries = if nat_lt 200000 entries then Err (script_errors.TooLong number) else Ok entries

-- each further line, after so many entries
abbrev pub plan_lines_in : Plan → ℕ → List Line → Result (List PlanLine) ScriptError
plan_lines_in p entries [] = Ok []
plan_lines_in p entries (l ∷ rest) = do
  line ← by_grammar (on_line l.number (plan_line_in p l.bytes))
  more ← within_limit l.number (entries + line_entries (node_count p.cfg) line)
  others ← plan_lines_in p more rest
  Ok (line ∷ others)

-- lines that count, judged one after another; the number of the line after the last one
unfoldable pub whole_plan_in : ℕ → List Line → Result Plan ScriptError
whole_plan_in end lines = do
  head ← by_grammar (plan_head_in end lines)
  others ← plan_lines_in head.0 head.0.limit head.1
  Ok (record head.0 { lines = others })

-- a text
abbrev pub plan_in : List ℕ → Result Plan ScriptError
plan_in text = whole_plan_in (end_of (whole text)) (counted_lines text)

-- ---- what was answered

-- as it is judged, unless memory ran out
abbrev pub Answers : {A B : Type 0} → (A → B) → Result A ScriptError → Result B ScriptError → Type 0
Answers view (Ok x) reading = reading ≡ Ok (view x)
Answers view (Err (script_errors.At line kind)) reading = reading ≡ Err (script_errors.At line kind)
Answers view (Err (script_errors.TooLong line)) reading = reading ≡ Err (script_errors.TooLong line)
Answers view (Err script_errors.OutOfMemory) reading = Unit {0}

-- this plan, unless memory ran out
abbrev pub ReadsPlan : Plan → Result Plan ScriptError → Type 0
ReadsPlan p (Ok q) = q ≡ p
ReadsPlan p (Err e) = e ≡ script_errors.OutOfMemory

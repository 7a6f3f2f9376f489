-- A text judged line by line: the script that it spells, or the first line that is refused and why.
use Rattle.std.specs.Prelude.{◌≡◌, ℕ, List, [], ◌∷◌, Result, Ok, Err}
use Rattle.record_codec.specs.Reading.{◌>>=◌}
use Rattle.script_text.specs.Names.{Config, Input, ScriptKind}
use Rattle.script_text.specs.Names.kinds
use Rattle.script_text.specs.Lines.{Line, counted_lines, whole, end_of}
use Rattle.script_text.specs.Spelled.{script_word}
use Rattle.script_text.specs.Judged.{Judged, version_in, seqs_in, shards_in, window_in, clients_in, consumers_in, input_in}

-- the number of a line, and why it is refused
abbrev pub Refusal : Type 0
Refusal = ℕ × ScriptKind

-- what is judged of a line, and at a refusal the line's number
abbrev pub on_line : {A : Type 0} → ℕ → Judged A → Result A Refusal
on_line number (Ok x) = Ok x
on_line number (Err kind) = Err (number, kind)

-- a line of the head that is due, and the lines after it. Where none is left, the line after the text's last one is refused
abbrev pub due_line : {A : Type 0} → ℕ → (List ℕ → Judged A) → List Line → Result (A × List Line) Refusal
due_line end judge [] = Err (end, kinds.Header)
due_line end judge (line ∷ rest) = do
  value ← on_line line.number (judge line.bytes)
  Ok (value, rest)

-- the six lines of the head of a cluster, of which the first begins with the due word, and the lines after them
unfoldable pub head_in : List ℕ → ℕ → List Line → Result (Config × List Line) Refusal
head_in due end lines = do
  version ← due_line end (version_in due) lines
  seqs ← due_line end seqs_in version.1
  shards ← due_line end shards_in seqs.1
  window ← due_line end (window_in shards.0) shards.1
  clients ← due_line end (clients_in window.0.1) window.1
  consumers ← due_line end consumers_in clients.1
  Ok (record { seqs = seqs.0; shards = shards.0; rounds = window.0.0; table = window.0.1; homes = clients.0; consumers = consumers.0.0; app = consumers.0.1 }, consumers.1)

-- each further line an input
abbrev pub inputs_in : Config → List Line → Result (List Input) Refusal
inputs_in c [] = Ok []
inputs_in c (line ∷ rest) = do
  first ← on_line line.number (input_in c line.bytes)
  others ← inputs_in c rest
  Ok (first ∷ others)

-- lines that count, judged one after another; the number of the line after the last one
unfoldable pub lines_in : ℕ → List Line → Result (Config × List Input) Refusal
lines_in end lines = do
  head ← head_in script_word end lines
  inputs ← inputs_in head.0 head.1
  Ok (head.0, inputs)

-- a text
abbrev pub script_in : List ℕ → Result (Config × List Input) Refusal
script_in text = lines_in (end_of (whole text)) (counted_lines text)

-- a line at which a text is refused
abbrev pub IsRefusedAt : ℕ → List ℕ → Type 0
IsRefusedAt line text = (kind : ScriptKind) × (script_in text ≡ Err (line, kind))

-- Which texts are scripts, and of what.
use Rattle.std.specs.Prelude.{◌≡◌, ℕ, ◌-◌, ◌<◌, ◌≤◌, ◌^◌, List, map, take, drop, IsTrue}
use Rattle.std.specs.List.{AllByRecursion, AllZip}
use Rattle.std.specs.Str.Lines.{lines}
use Rattle.msg_wire.specs.Valid.{IsValidConfig}
use Rattle.msg_wire.specs.Inputs.{IsInputOf}
use Rattle.script_text.specs.Names.{Config, Input}
use Rattle.script_text.specs.Names.inputs
use Rattle.script_text.specs.Lines.{Line, numbers_of, counted_from, counted_lines}
use Rattle.script_text.specs.Words.{is_printable, words_of}
use Rattle.script_text.specs.Spelled.{script_word, SpellsHead, SpellsInput}

-- each byte of these lines is printable
abbrev pub ArePrintable : List Line → Type 0
ArePrintable = AllByRecursion (λ (l : Line). IsTrue (is_printable l.bytes))

-- lines that count, the first six of them a head and each further one an input, spell a cluster and its inputs; numbers are those of the inputs' lines
pub record SpellsLines (lines : List Line) (c : Config) (inputs : List Input) (numbers : List ℕ) : Type 0 where
  pub printable : AllByRecursion (λ (l : Line). IsTrue (is_printable l.bytes)) lines
  pub head : SpellsHead script_word (map (λ (l : Line). words_of l.bytes) (take 6 lines)) c
  pub config : IsValidConfig c
  pub inputs_are : AllZip (λ (l : Line). SpellsInput l.bytes) (drop 6 lines) inputs
  pub within : AllByRecursion (IsInputOf c) inputs
  pub numbers_are : numbers ≡ numbers_of (drop 6 lines)

-- a text spells a script
abbrev pub SpellsScript : List ℕ → Config → List Input → List ℕ → Type 0
SpellsScript text = SpellsLines (counted_lines text)

-- of the lines before a line, those that count
abbrev pub lines_before : ℕ → List ℕ → List Line
lines_before line text = counted_from 1 (take (line - 1) (lines text))

-- what a line can say of an input: a printable body, a number of at most 18 digits, a count of at most 200,000
abbrev pub IsSpellable : Input → Type 0
IsSpellable (inputs.Submit client body) = IsTrue (is_printable body)
IsSpellable (inputs.Deliver number) = number < 10 ^ 18
IsSpellable (inputs.Lose number) = number < 10 ^ 18
IsSpellable (inputs.Tick node) = Unit {0}
IsSpellable (inputs.Restart node) = Unit {0}
IsSpellable (inputs.Command node command) = Unit {0}
IsSpellable (inputs.Drain count) = count ≤ 200000

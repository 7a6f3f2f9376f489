-- Which texts are plans, and of what.
use Rattle.std.specs.Prelude.{ℕ, List, map, take, drop}
use Rattle.std.specs.List.{AllZip}
use Rattle.msg_wire.specs.Valid.{IsValidPlan}
use Rattle.script_text.specs.Names.{Plan}
use Rattle.script_text.specs.Lines.{Line, counted_lines}
use Rattle.script_text.specs.Words.{words_of}
use Rattle.script_text.specs.Spelled.{plan_word, SpellsHead}
use Rattle.script_text.specs.SpelledPlans.{SpellsRest, SpellsPlanLine}
use Rattle.script_text.specs.Scripts.{ArePrintable}

-- lines that count spell a plan: the first six the head of its cluster, four more the rest of its head, and each further one a line of it. A valid plan
-- has no more lines than its entries allow
pub record SpellsPlanLines (lines : List Line) (p : Plan) : Type 0 where
  pub printable : ArePrintable lines
  pub head : SpellsHead plan_word (map (λ (l : Line). words_of l.bytes) (take 6 lines)) p.cfg
  pub rest : SpellsRest (map (λ (l : Line). words_of l.bytes) (take 4 (drop 6 lines))) p
  pub lines_are : AllZip (λ (l : Line). SpellsPlanLine l.bytes) (drop 10 lines) p.lines
  pub valid : IsValidPlan p

-- a text spells a plan
abbrev pub SpellsPlan : List ℕ → Plan → Type 0
SpellsPlan text = SpellsPlanLines (counted_lines text)

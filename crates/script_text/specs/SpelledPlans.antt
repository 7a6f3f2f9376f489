-- What the lines of a plan spell, where they are no lines of a script. Whether numbers and nodes are within bounds is said elsewhere.
use Rattle.std.specs.Prelude.{◌≡◌, ℕ, ◌<◌, ◌^◌, List, [], ◌∷◌, codes}
use Rattle.std.specs.List.{AllZip}
use Rattle.script_text.specs.Names.{Plan, PlanLine}
use Rattle.script_text.specs.Names.plan_lines
use Rattle.script_text.specs.Words.{words_of, SpellsDecimal}
use Rattle.script_text.specs.Spelled.{SpellsNumber, SpellsSubmit, SpellsNode, SpellsCommand}

-- the due word, and any numbers
abbrev pub SpellsNumbers : List ℕ → List (List ℕ) → List ℕ → Type 0
SpellsNumbers due words numbers = (rest : List (List ℕ)) × (words ≡ due ∷ rest) × AllZip SpellsDecimal rest numbers

-- the words of the four lines after the head of the cluster spell the rest of a plan's head
abbrev pub SpellsRest : List (List (List ℕ)) → Plan → Type 0
SpellsRest (readers ∷ submitters ∷ faults ∷ drain ∷ []) p =
    SpellsNumbers (codes "readers") readers p.readers
    × SpellsNumbers (codes "submitters") submitters p.submitters
    × SpellsNumbers (codes "faults") faults (p.seed ∷ p.lose ∷ p.repeat ∷ p.late ∷ p.cut ∷ [])
    × SpellsNumbers (codes "drain") drain (p.limit ∷ p.settle ∷ [])
    × (p.seed < 2 ^ 32)
SpellsRest _ p = ⊥

-- the line spells what stands after the head
abbrev pub SpellsPlanLine : List ℕ → PlanLine → Type 0
SpellsPlanLine line (plan_lines.Submit by body) = SpellsSubmit line by body
SpellsPlanLine line (plan_lines.Episode turns) = SpellsNumber (codes "episode") (words_of line) turns
SpellsPlanLine line (plan_lines.Restart node) = SpellsNode (codes "restart") (words_of line) node
SpellsPlanLine line (plan_lines.Command node command) = SpellsCommand (words_of line) node command

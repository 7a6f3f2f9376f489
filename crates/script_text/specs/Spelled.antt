-- What a line spells: relations between its words and what they say. Whether numbers and nodes are within bounds is said elsewhere.
use Rattle.std.specs.Prelude.{◌≡◌, ◌⊎◌, ℕ, ◌<◌, ◌≤◌, List, [], ◌∷◌, ◌++◌, length, codes}
use Rattle.std.specs.List.{AllZip, AllByRecursion}
use Rattle.spec_base.specs.Spelling.{node_name}
use Rattle.script_text.specs.Names.{Row, AppKind, NodeId, Command, Config, Input}
use Rattle.script_text.specs.Names.apps
use Rattle.script_text.specs.Names.inputs
use Rattle.script_text.specs.Names.commands
use Rattle.script_text.specs.Words.{words_of, SpellsDecimal}

-- ---- parts of a line

-- two words: the due one, and a number
abbrev pub SpellsNumber : List ℕ → List (List ℕ) → ℕ → Type 0
SpellsNumber due words n = (word : List ℕ) × (words ≡ due ∷ word ∷ []) × SpellsDecimal word n

-- a row: its shard, a colon, its quota
abbrev pub SpellsRow : List ℕ → Row → Type 0
SpellsRow word row =
    (shard : List ℕ) × (quota : List ℕ) × (word ≡ shard ++ 58 ∷ quota) × SpellsDecimal shard row.shard × SpellsDecimal quota row.quota

-- a number of rounds, and after it the rows
abbrev pub SpellsWindow : List (List ℕ) → ℕ → List Row → Type 0
SpellsWindow words rounds rows =
    (word : List ℕ) × (rest : List (List ℕ)) × (words ≡ word ∷ rest) × SpellsDecimal word rounds × AllZip SpellsRow rest rows

abbrev pub app_name : AppKind → List ℕ
app_name apps.Tally = codes "tally"
app_name apps.Bank = codes "bank"
app_name apps.Kv = codes "kv"

-- ---- the head

-- the first word of a script, and that of a plan
abbrev pub script_word : List ℕ
script_word = codes "belfast"

abbrev pub plan_word : List ℕ
plan_word = codes "belfast-plan"

-- the words of six lines, of which the first begins with the due word, spell the cluster
abbrev pub SpellsHead : List ℕ → List (List (List ℕ)) → Config → Type 0
SpellsHead due (version ∷ seqs ∷ shards ∷ window ∷ clients ∷ consumers ∷ []) c =
    SpellsNumber due version 1
    × SpellsNumber (codes "seqs") seqs c.seqs
    × SpellsNumber (codes "shards") shards c.shards
    × ((rows : List (List ℕ)) × (window ≡ codes "window" ∷ rows) × SpellsWindow rows c.rounds c.table)
    × ((homes : List (List ℕ)) × (clients ≡ codes "clients" ∷ homes) × AllZip SpellsDecimal homes c.homes)
    × ((count : List ℕ) × (consumers ≡ codes "consumers" ∷ count ∷ app_name c.app ∷ []) × SpellsDecimal count c.consumers)
SpellsHead due _ c = ⊥

-- ---- inputs

abbrev pub AreSpaces : List ℕ → Type 0
AreSpaces = AllByRecursion (λ b. b ≡ 0x20)

-- a body is what follows the one space; without that space it is empty
abbrev pub SpellsBody : List ℕ → List ℕ → Type 0
SpellsBody rest body = (rest ≡ 0x20 ∷ body) ⊎ ((rest ≡ []) × (body ≡ []))

-- spaces or none, `submit`, spaces, the client or the submitter, the body
pub record SpellsSubmit (line : List ℕ) (client : ℕ) (body : List ℕ) : Type 0 where
  pub before : List ℕ
  pub between : List ℕ
  pub word : List ℕ
  pub rest : List ℕ
  pub line_is : line ≡ before ++ (codes "submit" ++ (between ++ (word ++ rest)))
  pub spaces_before : AreSpaces before
  pub spaces_between : AreSpaces between
  pub some_space : 0 < length between
  pub client_is : SpellsDecimal word client
  pub body_is : SpellsBody rest body

-- a word, and the name of a node
abbrev pub SpellsNode : List ℕ → List (List ℕ) → NodeId → Type 0
SpellsNode due words node = words ≡ due ∷ node_name node ∷ []

-- what a sequencer is told
abbrev pub SpellsCommand : List (List ℕ) → NodeId → Command → Type 0
SpellsCommand words node (commands.Table rounds rows) =
    (rest : List (List ℕ)) × (words ≡ codes "table" ∷ node_name node ∷ rest) × SpellsWindow rest rounds rows
SpellsCommand words node (commands.Remove shard) =
    (word : List ℕ) × (words ≡ codes "remove" ∷ node_name node ∷ word ∷ []) × SpellsDecimal word shard

-- the line spells the input
abbrev pub SpellsInput : List ℕ → Input → Type 0
SpellsInput line (inputs.Submit client body) = SpellsSubmit line client body
SpellsInput line (inputs.Deliver number) = SpellsNumber (codes "deliver") (words_of line) number
SpellsInput line (inputs.Lose number) = SpellsNumber (codes "lose") (words_of line) number
SpellsInput line (inputs.Tick node) = SpellsNode (codes "tick") (words_of line) node
SpellsInput line (inputs.Restart node) = SpellsNode (codes "restart") (words_of line) node
SpellsInput line (inputs.Command node command) = SpellsCommand (words_of line) node command
SpellsInput line (inputs.Drain count) = SpellsNumber (codes "drain") (words_of line) count × (count ≤ 200000)

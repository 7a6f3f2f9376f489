-- A line that counts, judged: what it says, or the first kind that fits of those why it is refused. The kinds are judged in this order: a byte, the first
-- word of a head line, the first word and the number of words, then numbers, nodes and bounds from left to right, then the rows, then the body.
use Rattle.std.specs.Prelude.{ℕ, ◌==◌, ◌&&◌, ◌||◌, nat_lt, nat_le, if◌then◌else◌, Bool, true, not, List, [], ◌∷◌, length, map, drop, codes, Option, Some, None, Result, Ok, Err}
use Rattle.std.specs.List.{slice_split, find}
use Rattle.quota_table.specs.Rows.{has_shard}
use Rattle.quota_table.specs.Tables.{table_fault, asked_row}
use Rattle.record_codec.specs.Reading.{◌>>=◌}
use Rattle.spec_base.specs.Spelling.{node_name}
use Rattle.msg_wire.specs.Nodes.{nodes_of, sequencers_of}
use Rattle.script_text.specs.Names.{NodeId, Row, Asked, TableError, AppKind, Command, Config, Input, ScriptKind}
use Rattle.script_text.specs.Names.apps
use Rattle.script_text.specs.Names.inputs
use Rattle.script_text.specs.Names.commands
use Rattle.script_text.specs.Names.kinds
use Rattle.script_text.specs.Words.{is_printable, words_of, after_word, is_word, is_decimal, value_of}
use Rattle.script_text.specs.Spelled.{app_name}

-- what is judged: a value, or a kind
abbrev pub Judged : Type 0 → Type 0
Judged A = Result A ScriptKind

-- what an option has, or else a kind
abbrev pub some_or : {A : Type 0} → ScriptKind → Option A → Judged A
some_or kind None = Err kind
some_or kind (Some x) = Ok x

-- each word by itself, from left to right
abbrev pub each : {A : Type 0} → (List ℕ → Judged A) → List (List ℕ) → Judged (List A)
each judge [] = Ok []
each judge (word ∷ words) = do
  first ← judge word
  rest ← each judge words
  Ok (first ∷ rest)

-- ---- single words

abbrev pub from_to : ℕ → ℕ → ℕ → Bool
from_to least most n = nat_le least n && nat_le n most

-- a number, and a test of its bounds
unfoldable pub number_where : (ℕ → Bool) → List ℕ → Judged ℕ
number_where within word =
    if not (is_decimal word) then Err kinds.Number
    else if within (value_of word) then Ok (value_of word)
    else Err kinds.Range

-- a number below a limit
unfoldable pub number_below : ℕ → List ℕ → Judged ℕ
number_below limit word = number_where (λ n. nat_lt n limit) word

-- the name of one of the nodes
unfoldable pub node_in : List NodeId → List ℕ → Judged NodeId
node_in nodes word = some_or kinds.Node (find (λ node. is_word (node_name node) word) nodes)

-- the two parts of a row's word, of a cluster with so many shards
abbrev pub asked_of : ℕ → List (List ℕ) → Judged Asked
asked_of shards (shard ∷ quota ∷ []) =
    if not (is_decimal shard && is_decimal quota) then Err kinds.Number
    else if nat_lt (value_of shard) shards && nat_le (value_of quota) 4294967295 then Ok (record { shard = value_of shard; quota = value_of quota })
    else Err kinds.Range
asked_of shards _ = Err kinds.Number

-- a row: two numbers, and one colon between them
unfoldable pub asked_in : ℕ → List ℕ → Judged Asked
asked_in shards word = asked_of shards (slice_split (λ b. b == 58) word)

-- the table of rows, or their fault
abbrev pub rows_of : List Asked → Option TableError → Judged (List Row)
rows_of asked None = Ok (map asked_row asked)
rows_of asked (Some error) = Err (kinds.Rows error)

-- the table of the words, of a cluster with so many shards
unfoldable pub rows_in : ℕ → List (List ℕ) → Judged (List Row)
rows_in shards words = do
  asked ← each (asked_in shards) words
  rows_of asked (table_fault asked)

-- a number of rounds, and rows
unfoldable pub window_of : ℕ → List ℕ → List (List ℕ) → Judged (ℕ × List Row)
window_of shards word words = do
  rounds ← number_where (from_to 1 1024) word
  rows ← rows_in shards words
  Ok (rounds, rows)

-- ---- how many words there are

-- the first word, and those after it
abbrev pub first_of : List (List ℕ) → Judged (List ℕ × List (List ℕ))
first_of [] = Err kinds.Word
first_of (word ∷ words) = Ok (word, words)

-- the one word
abbrev pub only_of : List (List ℕ) → Judged (List ℕ)
only_of [] = Err kinds.Word
only_of (word ∷ []) = Ok word
only_of (word ∷ other ∷ words) = Err kinds.Word

-- the two words
abbrev pub both_of : List (List ℕ) → Judged (List ℕ × List ℕ)
both_of words = do
  first ← first_of words
  second ← only_of first.1
  Ok (first.0, second)

-- ---- lines of the head

abbrev pub after_due : List ℕ → List (List ℕ) → Judged (List (List ℕ))
after_due due [] = Err kinds.Header
after_due due (word ∷ words) = if is_word due word then Ok words else Err kinds.Header

-- the words after the due one
unfoldable pub due_in : List ℕ → List ℕ → Judged (List (List ℕ))
due_in due line = if not (is_printable line) then Err kinds.Byte else after_due due (words_of line)

-- the number of the version, and no further word
unfoldable pub version_of : List (List ℕ) → Judged ℕ
version_of [] = Err kinds.Header
version_of (word ∷ words) =
    if not (is_decimal word && (value_of word == 1)) then Err kinds.Header
    else if nat_lt 0 (length words) then Err kinds.Word
    else Ok 1

unfoldable pub version_in : List ℕ → List ℕ → Judged ℕ
version_in due line = do
  words ← due_in due line
  version_of words

abbrev pub is_majority_size : ℕ → Bool
is_majority_size n = (n == 1) || ((n == 3) || (n == 5))

unfoldable pub seqs_in : List ℕ → Judged ℕ
seqs_in line = do
  words ← due_in (codes "seqs") line
  word ← only_of words
  number_where is_majority_size word

unfoldable pub shards_in : List ℕ → Judged ℕ
shards_in line = do
  words ← due_in (codes "shards") line
  word ← only_of words
  number_where (from_to 1 6) word

unfoldable pub window_in : ℕ → List ℕ → Judged (ℕ × List Row)
window_in shards line = do
  words ← due_in (codes "window") line
  first ← first_of words
  window_of shards first.0 first.1

-- 1 to 6 homes, each the shard of a row
unfoldable pub homes_of : List Row → List (List ℕ) → Judged (List ℕ)
homes_of rows words =
    if from_to 1 6 (length words) then each (number_where (λ home. has_shard home rows)) words else Err kinds.Word

unfoldable pub clients_in : List Row → List ℕ → Judged (List ℕ)
clients_in rows line = do
  words ← due_in (codes "clients") line
  homes_of rows words

-- the application of this name
unfoldable pub app_in : List ℕ → Judged AppKind
app_in word = some_or kinds.Word (find (λ app. is_word (app_name app) word) (apps.Tally ∷ apps.Bank ∷ apps.Kv ∷ []))

-- a number of consumers, and their application, which is judged first
unfoldable pub consumers_in : List ℕ → Judged (ℕ × AppKind)
consumers_in line = do
  words ← due_in (codes "consumers") line
  both ← both_of words
  app ← app_in both.1
  count ← number_where (from_to 1 4) both.0
  Ok (count, app)

-- ---- what lines of scripts and of plans have alike

-- what is made of two parts
abbrev pub of_both : {A B C : Type 0} → (A → B → C) → Judged (A × B) → Judged C
of_both make (Ok both) = Ok (make both.0 both.1)
of_both make (Err kind) = Err kind

-- a body of at most 1,024 bytes
abbrev pub body_in : List ℕ → Judged (List ℕ)
body_in body = if nat_lt 1024 (length body) then Err (kinds.Body (length body)) else Ok body

-- a client or a submitter, of so many; what would be the body stands apart
unfoldable pub submit_of : ℕ → List ℕ → List (List ℕ) → Judged (ℕ × List ℕ)
submit_of count bytes words = do
  first ← first_of words
  number ← number_below count first.0
  body ← body_in bytes
  Ok (number, body)

-- any node
unfoldable pub only_node_of : Config → List (List ℕ) → Judged NodeId
only_node_of c words = do
  word ← only_of words
  node_in (nodes_of c) word

-- a line that names a node alone
unfoldable pub of_node : {A : Type 0} → (NodeId → A) → Config → List (List ℕ) → Judged A
of_node make c words = do
  node ← only_node_of c words
  Ok (make node)

-- a sequencer, rounds, rows
unfoldable pub table_of : Config → List (List ℕ) → Judged (NodeId × Command)
table_of c words = do
  first ← first_of words
  second ← first_of first.1
  node ← node_in (sequencers_of c) first.0
  window ← window_of c.shards second.0 second.1
  Ok (node, commands.Table window.0 window.1)

-- a sequencer, a shard
unfoldable pub remove_of : Config → List (List ℕ) → Judged (NodeId × Command)
remove_of c words = do
  both ← both_of words
  node ← node_in (sequencers_of c) both.0
  shard ← number_below c.shards both.1
  Ok (node, commands.Remove shard)

-- ---- lines of inputs

-- any number
unfoldable pub message_of : List (List ℕ) → Judged ℕ
message_of words = do
  word ← only_of words
  number_where (λ _. true) word

-- an input that names a message alone
unfoldable pub of_message : (ℕ → Input) → List (List ℕ) → Judged Input
of_message make words = do
  number ← message_of words
  Ok (make number)

unfoldable pub drain_of : List (List ℕ) → Judged Input
drain_of words = do
  word ← only_of words
  count ← number_where (from_to 0 200000) word
  Ok (inputs.Drain count)

-- by the first word; the words after it, and what would be the body
abbrev pub form_of : Config → List ℕ → List (List ℕ) → Judged Input
form_of c body [] = Err kinds.Word
form_of c body (word ∷ words) =
    if is_word (codes "submit") word then of_both inputs.Submit (submit_of (length c.homes) body words)
    else if is_word (codes "deliver") word then of_message inputs.Deliver words
    else if is_word (codes "lose") word then of_message inputs.Lose words
    else if is_word (codes "tick") word then of_node inputs.Tick c words
    else if is_word (codes "restart") word then of_node inputs.Restart c words
    else if is_word (codes "table") word then of_both inputs.Command (table_of c words)
    else if is_word (codes "remove") word then of_both inputs.Command (remove_of c words)
    else if is_word (codes "drain") word then drain_of words
    else Err kinds.Word

-- what follows the one space after the second word
abbrev pub body_of : List ℕ → List ℕ
body_of line = drop 1 (after_word (after_word line))

unfoldable pub input_in : Config → List ℕ → Judged Input
input_in c line = if not (is_printable line) then Err kinds.Byte else form_of c (body_of line) (words_of line)

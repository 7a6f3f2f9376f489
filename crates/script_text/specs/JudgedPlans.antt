-- A line of a plan, judged: what it says, or the first kind that fits of those why it is refused, in the order in which a script's lines are judged.
use Rattle.std.specs.Prelude.{ℕ, ◌+◌, ◌≤◌, nat_lt, if◌then◌else◌, not, List, [], ◌∷◌, length, codes, Ok, Err}
use Rattle.record_codec.specs.Reading.{◌>>=◌}
use Rattle.script_text.specs.Names.{Config, Plan, PlanLine}
use Rattle.script_text.specs.Names.plan_lines
use Rattle.script_text.specs.Names.kinds
use Rattle.script_text.specs.declared.plan_head.Faults.{Faults}
use Rattle.script_text.specs.Words.{is_printable, words_of, is_word}
use Rattle.script_text.specs.Judged.{Judged, each, from_to, number_where, number_below, first_of, only_of, both_of, due_in, of_both, submit_of, of_node, table_of, remove_of, body_of}

-- ---- the rest of the head

-- at most eight numbers, each below a limit
unfoldable pub few_of : ℕ → List (List ℕ) → Judged (List ℕ)
few_of limit words = if nat_lt 8 (length words) then Err kinds.Word else each (number_below limit) words

-- the consumer of each reader
unfoldable pub readers_in : ℕ → List ℕ → Judged (List ℕ)
readers_in consumers line = do
  words ← due_in (codes "readers") line
  few_of consumers words

-- the client of each submitter
unfoldable pub submitters_in : ℕ → List ℕ → Judged (List ℕ)
submitters_in clients line = do
  words ← due_in (codes "submitters") line
  few_of clients words

-- a percentage by itself
unfoldable pub percent_in : List ℕ → Judged ℕ
percent_in word = number_where (from_to 0 100) word

-- the four percentages together, after all words
abbrev pub whole_of : Faults → Judged Faults
whole_of f = if nat_lt 100 (f.lose + f.repeat + f.late + f.cut) then Err kinds.Range else Ok f

-- a seed, and four percentages
unfoldable pub faults_of : List (List ℕ) → Judged Faults
faults_of words = do
  first ← first_of words
  second ← first_of first.1
  third ← first_of second.1
  last ← both_of third.1
  seed ← number_where (from_to 0 4294967295) first.0
  lose ← percent_in second.0
  repeat ← percent_in third.0
  late ← percent_in last.0
  cut ← percent_in last.1
  whole_of (record { seed = seed; lose = lose; repeat = repeat; late = late; cut = cut })

unfoldable pub faults_in : List ℕ → Judged Faults
faults_in line = do
  words ← due_in (codes "faults") line
  faults_of words

-- the most inputs of the drain, and how often every node ticks in it
unfoldable pub limits_in : List ℕ → Judged (ℕ × ℕ)
limits_in line = do
  words ← due_in (codes "drain") line
  both ← both_of words
  limit ← number_where (from_to 0 200000) both.0
  settle ← number_where (from_to 0 10000) both.1
  Ok (limit, settle)

-- ---- the lines after the head

unfoldable pub episode_of : List (List ℕ) → Judged PlanLine
episode_of words = do
  word ← only_of words
  turns ← number_where (from_to 1 2000) word
  Ok (plan_lines.Episode turns)

-- by the first word; a cluster, how many submitters there are, what would be the body, and the words
abbrev pub plan_form_of : Config → ℕ → List ℕ → List (List ℕ) → Judged PlanLine
plan_form_of c submitters body [] = Err kinds.Word
plan_form_of c submitters body (word ∷ words) =
    if is_word (codes "submit") word then of_both plan_lines.Submit (submit_of submitters body words)
    else if is_word (codes "episode") word then episode_of words
    else if is_word (codes "restart") word then of_node plan_lines.Restart c words
    else if is_word (codes "table") word then of_both plan_lines.Command (table_of c words)
    else if is_word (codes "remove") word then of_both plan_lines.Command (remove_of c words)
    else Err kinds.Word

-- an episode has few turns
abbrev pub HasFewTurns : PlanLine → Type 0
HasFewTurns (plan_lines.Submit by body) = Unit {0}
HasFewTurns (plan_lines.Episode turns) = turns ≤ 2000
HasFewTurns (plan_lines.Restart node) = Unit {0}
HasFewTurns (plan_lines.Command node command) = Unit {0}

-- of a plan whose head is known
unfoldable pub plan_line_in : Plan → List ℕ → Judged PlanLine
plan_line_in p line =
    if not (is_printable line) then Err kinds.Byte else plan_form_of p.cfg (length p.submitters) (body_of line) (words_of line)

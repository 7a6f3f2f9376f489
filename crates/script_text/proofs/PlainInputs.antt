-- A plain line of each input: single spaces, no leading zeros.
use Rattle.std.proofs.Common.{◌≡◌, inl, ℕ, ◌<◌, ◌≤◌, ◌^◌, true, List, [], ◌∷◌, ◌++◌, map, decimal, codes, refl, arith}
use Rattle.std.specs.List.{list_all, AllByRecursion, AllZip}
use Rattle.std.proofs.lemmas.Bool.Decides.{nat_tests}
use Rattle.spec_base.specs.Spelling.{node_name}
use Rattle.quota_table.specs.Rows.{is_row}
use Rattle.msg_wire.specs.Valid.{IsValidConfig}
use Rattle.msg_wire.specs.Inputs.{IsInputOf}
use Rattle.script_text.specs.Names.{Row, Config, Input}
use Rattle.script_text.specs.Names.inputs
use Rattle.script_text.specs.Names.commands
use Rattle.script_text.specs.Words.{is_printable, words_of}
use Rattle.script_text.specs.Spelled.{SpellsNumber, SpellsRow, SpellsSubmit, SpellsInput}
use Rattle.script_text.specs.Scripts.{IsSpellable}
use Rattle.script_text.specs.Lines.{counts}
use Rattle.script_text.proofs.RowLemmas.{and_left, and_right}
use Rattle.script_text.proofs.NodeLemmas.{valid_node, sequencer_node}
use Rattle.script_text.proofs.PlainWords.{IsPlainWord, sentence, words_of_sentence, printable_append, printable_sentence, plain_decimal, spelled_decimal, plain_name, row_word, plain_row, spelled_row}
use Rattle.script_text.proofs.PlainTexts.{IsLineOf}

abbrev pub submit_text : ℕ → List ℕ → List ℕ
submit_text by body = codes "submit" ++ (32 ∷ (decimal by ++ 32 ∷ body))

abbrev pub input_text : Input → List ℕ
input_text (inputs.Submit client body) = submit_text client body
input_text (inputs.Deliver number) = sentence (codes "deliver" ∷ decimal number ∷ [])
input_text (inputs.Lose number) = sentence (codes "lose" ∷ decimal number ∷ [])
input_text (inputs.Tick node) = sentence (codes "tick" ∷ node_name node ∷ [])
input_text (inputs.Restart node) = sentence (codes "restart" ∷ node_name node ∷ [])
input_text (inputs.Command node (commands.Table rounds rows)) = sentence (codes "table" ∷ node_name node ∷ decimal rounds ∷ map row_word rows)
input_text (inputs.Command node (commands.Remove shard)) = sentence (codes "remove" ∷ node_name node ∷ decimal shard ∷ [])
input_text (inputs.Drain count) = sentence (codes "drain" ∷ decimal count ∷ [])

deliver_word : IsPlainWord (codes "deliver")
deliver_word = record { some = omega arith; letters = (refl, (refl, (refl, (refl, (refl, (refl, (refl, tt))))))); printable = refl }

lose_word : IsPlainWord (codes "lose")
lose_word = record { some = omega arith; letters = (refl, (refl, (refl, (refl, tt)))); printable = refl }

tick_word : IsPlainWord (codes "tick")
tick_word = record { some = omega arith; letters = (refl, (refl, (refl, (refl, tt)))); printable = refl }

restart_word : IsPlainWord (codes "restart")
restart_word = record { some = omega arith; letters = (refl, (refl, (refl, (refl, (refl, (refl, (refl, tt))))))); printable = refl }

table_word : IsPlainWord (codes "table")
table_word = record { some = omega arith; letters = (refl, (refl, (refl, (refl, (refl, tt))))); printable = refl }

remove_word : IsPlainWord (codes "remove")
remove_word = record { some = omega arith; letters = (refl, (refl, (refl, (refl, (refl, (refl, tt)))))); printable = refl }

pub drain_word : IsPlainWord (codes "drain")
drain_word = record { some = omega arith; letters = (refl, (refl, (refl, (refl, (refl, tt))))); printable = refl }

pub number_line : (due : List ℕ) (n : ℕ) → IsPlainWord due → n < 10 ^ 18 → SpellsNumber due (words_of (sentence (due ∷ decimal n ∷ []))) n
number_line due n w h = (decimal n, words_of_sentence (due ∷ decimal n ∷ []) (w, (plain_decimal n h, tt)), spelled_decimal n h)

-- rows of a table
pub rows_small : (rows : List Row) → list_all is_row rows ≡ true → AllByRecursion (λ (r : Row). (r.shard < 6) × (r.quota ≤ 64)) rows
rows_small [] v = tt
rows_small (r ∷ rows) v =
    let here : is_row r ≡ true = and_left (is_row r) (list_all is_row rows) v in
    ((grind (arith, nat_tests, here), grind (arith, nat_tests, here)), rows_small rows (and_right (is_row r) (list_all is_row rows) v))

pub plain_rows : (rows : List Row) → AllByRecursion (λ (r : Row). (r.shard < 6) × (r.quota ≤ 64)) rows → AllByRecursion IsPlainWord (map row_word rows)
plain_rows [] h = tt
plain_rows (r ∷ rows) h = (plain_row r (omega (arith, h.0.0)) (omega (arith, h.0.1)), plain_rows rows h.1)

pub spelled_rows : (rows : List Row) → AllByRecursion (λ (r : Row). (r.shard < 6) × (r.quota ≤ 64)) rows → AllZip SpellsRow (map row_word rows) rows
spelled_rows [] h = tt
spelled_rows (r ∷ rows) h = (spelled_row r (omega (arith, h.0.0)) (omega (arith, h.0.1)), spelled_rows rows h.1)

pub submit_spelled : (by : ℕ) (body : List ℕ) → by < 10 ^ 18 → SpellsSubmit (submit_text by body) by body
submit_spelled by body h = record {
  before = [];
  between = 32 ∷ [];
  word = decimal by;
  rest = 32 ∷ body;
  line_is = refl;
  spaces_before = tt;
  spaces_between = (refl, tt);
  some_space = omega arith;
  client_is = spelled_decimal by h;
  body_is = inl refl;
}

pub submit_printable : (by : ℕ) (body : List ℕ) → by < 10 ^ 18 → is_printable body ≡ true → is_printable (submit_text by body) ≡ true
submit_printable by body h s =
    printable_append (codes "submit") (32 ∷ (decimal by ++ 32 ∷ body)) refl (printable_append (decimal by) (32 ∷ body) (plain_decimal by h).printable s)

-- a line that its words spell
words_line : (i : Input) (words : List (List ℕ)) → AllByRecursion IsPlainWord words → counts (sentence words) ≡ true
    → (words_of (sentence words) ≡ words → SpellsInput (sentence words) i) → IsLineOf SpellsInput (sentence words) i
words_line i words plain counted spelled = record { printable = printable_sentence words plain; counted = counted; spelled = spelled (words_of_sentence words plain) }

pub input_line : (c : Config) → IsValidConfig c → (i : Input) → IsInputOf c i → IsSpellable i → IsLineOf SpellsInput (input_text i) i
input_line c v (inputs.Submit client body) h s =
    let small : client < 10 ^ 18 = omega (arith, h.0, v.most_clients) in
    record { printable = submit_printable client body small s; counted = refl; spelled = submit_spelled client body small }
input_line c v (inputs.Deliver number) h s = record {
  printable = printable_sentence (codes "deliver" ∷ decimal number ∷ []) (deliver_word, (plain_decimal number s, tt));
  counted = refl;
  spelled = number_line (codes "deliver") number deliver_word s;
}
input_line c v (inputs.Lose number) h s = record {
  printable = printable_sentence (codes "lose" ∷ decimal number ∷ []) (lose_word, (plain_decimal number s, tt));
  counted = refl;
  spelled = number_line (codes "lose") number lose_word s;
}
input_line c v (inputs.Tick node) h s =
    words_line (inputs.Tick node) (codes "tick" ∷ node_name node ∷ []) (tick_word, (plain_name node (valid_node c node v h), tt)) refl (λ e. e)
input_line c v (inputs.Restart node) h s =
    words_line (inputs.Restart node) (codes "restart" ∷ node_name node ∷ []) (restart_word, (plain_name node (valid_node c node v h), tt)) refl (λ e. e)
input_line c v (inputs.Command node (commands.Table rounds rows)) h s =
    let name = plain_name node (valid_node c node v (sequencer_node c node h.0)) in
    let few : rounds < 10 ^ 18 = omega (arith, h.1.0.1) in
    let small = rows_small rows h.1.1.table.within in
    let words : List (List ℕ) = codes "table" ∷ node_name node ∷ decimal rounds ∷ map row_word rows in
    let plain : AllByRecursion IsPlainWord words = (table_word, (name, (plain_decimal rounds few, plain_rows rows small))) in
    record {
      printable = printable_sentence words plain;
      counted = refl;
      spelled = (decimal rounds ∷ map row_word rows, words_of_sentence words plain, (decimal rounds, map row_word rows, refl, spelled_decimal rounds few, spelled_rows rows small));
    }
input_line c v (inputs.Command node (commands.Remove shard)) h s =
    let name = plain_name node (valid_node c node v (sequencer_node c node h.0)) in
    let few : shard < 10 ^ 18 = omega (arith, h.1, v.most_shards) in
    record {
      printable = printable_sentence (codes "remove" ∷ node_name node ∷ decimal shard ∷ []) (remove_word, (name, (plain_decimal shard few, tt)));
      counted = refl;
      spelled = (decimal shard, words_of_sentence (codes "remove" ∷ node_name node ∷ decimal shard ∷ []) (remove_word, (name, (plain_decimal shard few, tt))), spelled_decimal shard few);
    }
input_line c v (inputs.Drain count) h s =
    let few : count < 10 ^ 18 = omega (arith, s) in
    record {
      printable = printable_sentence (codes "drain" ∷ decimal count ∷ []) (drain_word, (plain_decimal count few, tt));
      counted = refl;
      spelled = (number_line (codes "drain") count drain_word few, s);
    }

pub input_lines : (c : Config) → IsValidConfig c → (xs : List Input) → AllByRecursion (IsInputOf c) xs → AllByRecursion IsSpellable xs
    → AllByRecursion (λ x. IsLineOf SpellsInput (input_text x) x) xs
input_lines c v [] h s = tt
input_lines c v (x ∷ xs) h s = (input_line c v x h.0 s.0, input_lines c v xs h.1 s.1)

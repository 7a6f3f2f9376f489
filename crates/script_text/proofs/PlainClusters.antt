-- Six plain lines of each valid cluster, the first of which begins with a due word.
use Rattle.std.proofs.Common.{◌≡◌, ◌⊎◌, ℕ, ◌<◌, ◌≤◌, ◌^◌, true, IsTrue, List, [], ◌∷◌, map, decimal, codes, refl, arith}
use Rattle.std.specs.List.{AllByRecursion}
use Rattle.quota_table.specs.Rows.{IsTable, has_shard}
use Rattle.msg_wire.specs.Valid.{IsValidConfig}
use Rattle.script_text.specs.Names.{Row, AppKind, Config}
use Rattle.script_text.specs.Names.apps
use Rattle.script_text.specs.Lines.{counts}
use Rattle.script_text.specs.Words.{words_of}
use Rattle.script_text.specs.Spelled.{app_name, SpellsHead}
use Rattle.script_text.proofs.TableLemmas.{shard_of_row}
use Rattle.script_text.proofs.PlainWords.{IsPlainWord, sentence, words_of_sentence, printable_sentence, counts_sentence, plain_decimal, spelled_decimal, plain_decimals, spelled_decimals, row_word}
use Rattle.script_text.proofs.PlainTexts.{ArePrintable, AllCount}
use Rattle.script_text.proofs.PlainInputs.{number_line, rows_small, plain_rows, spelled_rows}

seqs_word : IsPlainWord (codes "seqs")
seqs_word = record { some = omega arith; letters = (refl, (refl, (refl, (refl, tt)))); printable = refl }

shards_word : IsPlainWord (codes "shards")
shards_word = record { some = omega arith; letters = (refl, (refl, (refl, (refl, (refl, (refl, tt)))))); printable = refl }

window_word : IsPlainWord (codes "window")
window_word = record { some = omega arith; letters = (refl, (refl, (refl, (refl, (refl, (refl, tt)))))); printable = refl }

clients_word : IsPlainWord (codes "clients")
clients_word = record { some = omega arith; letters = (refl, (refl, (refl, (refl, (refl, (refl, (refl, tt))))))); printable = refl }

consumers_word : IsPlainWord (codes "consumers")
consumers_word = record { some = omega arith; letters = (refl, (refl, (refl, (refl, (refl, (refl, (refl, (refl, (refl, tt))))))))); printable = refl }

app_word : (app : AppKind) → IsPlainWord (app_name app)
app_word apps.Tally = record { some = omega arith; letters = (refl, (refl, (refl, (refl, (refl, tt))))); printable = refl }
app_word apps.Bank = record { some = omega arith; letters = (refl, (refl, (refl, (refl, tt)))); printable = refl }
app_word apps.Kv = record { some = omega arith; letters = (refl, (refl, tt)); printable = refl }

homes_small : (rows : List Row) (homes : List ℕ) → IsTable rows → AllByRecursion (λ home. IsTrue (has_shard home rows)) homes
    → AllByRecursion (λ home. home < 10 ^ 18) homes
homes_small rows [] t h = tt
homes_small rows (x ∷ homes) t h = (omega (arith, shard_of_row x rows t h.0), homes_small rows homes t h.1)

odd_small : (n : ℕ) → (n ≡ 1) ⊎ (n ≡ 3) ⊎ (n ≡ 5) → n < 10 ^ 18
odd_small n h = let few : n ≤ 5 = grind arith in omega arith

-- the words of two of the lines
abbrev window_words : Config → List (List ℕ)
window_words c = codes "window" ∷ decimal c.rounds ∷ map row_word c.table

abbrev clients_words : Config → List (List ℕ)
clients_words c = codes "clients" ∷ map decimal c.homes

abbrev pub head_rows : List ℕ → Config → List (List ℕ)
head_rows due c =
    sentence (due ∷ decimal 1 ∷ []) ∷ sentence (codes "seqs" ∷ decimal c.seqs ∷ []) ∷ sentence (codes "shards" ∷ decimal c.shards ∷ [])
    ∷ sentence (window_words c) ∷ sentence (clients_words c) ∷ sentence (codes "consumers" ∷ decimal c.consumers ∷ app_name c.app ∷ []) ∷ []

pub record IsHeadOf (due : List ℕ) (rows : List (List ℕ)) (c : Config) : Type 0 where
  pub printable : ArePrintable rows
  pub counted : AllCount rows
  pub spelled : SpellsHead due (map words_of rows) c

pub plain_head : (due : List ℕ) (c : Config) → IsPlainWord due → counts due ≡ true → IsValidConfig c → IsHeadOf due (head_rows due c) c
plain_head due c w counted v =
    let seqs : c.seqs < 10 ^ 18 = odd_small c.seqs v.seqs in
    let shards : c.shards < 10 ^ 18 = omega (arith, v.most_shards) in
    let rounds : c.rounds < 10 ^ 18 = omega (arith, v.rounds.1) in
    let consumers : c.consumers < 10 ^ 18 = omega (arith, v.most_consumers) in
    let table = rows_small c.table v.rows.table.within in
    let homes = homes_small c.table c.homes v.rows.table v.homes in
    let p1 : AllByRecursion IsPlainWord (due ∷ decimal 1 ∷ []) = (w, (plain_decimal 1 (omega arith), tt)) in
    let p2 : AllByRecursion IsPlainWord (codes "seqs" ∷ decimal c.seqs ∷ []) = (seqs_word, (plain_decimal c.seqs seqs, tt)) in
    let p3 : AllByRecursion IsPlainWord (codes "shards" ∷ decimal c.shards ∷ []) = (shards_word, (plain_decimal c.shards shards, tt)) in
    let p4 : AllByRecursion IsPlainWord (window_words c) = (window_word, (plain_decimal c.rounds rounds, plain_rows c.table table)) in
    let p5 : AllByRecursion IsPlainWord (clients_words c) = (clients_word, plain_decimals c.homes homes) in
    let p6 : AllByRecursion IsPlainWord (codes "consumers" ∷ decimal c.consumers ∷ app_name c.app ∷ []) = (consumers_word, (plain_decimal c.consumers consumers, (app_word c.app, tt))) in
    record {
      printable = (
        printable_sentence (due ∷ decimal 1 ∷ []) p1,
        (
          printable_sentence (codes "seqs" ∷ decimal c.seqs ∷ []) p2,
          (
            printable_sentence (codes "shards" ∷ decimal c.shards ∷ []) p3,
            (printable_sentence (window_words c) p4, (printable_sentence (clients_words c) p5, (printable_sentence (codes "consumers" ∷ decimal c.consumers ∷ app_name c.app ∷ []) p6, tt))),
          ),
        ),
      );
      counted = (counts_sentence due (decimal 1 ∷ []) counted, (refl, (refl, (refl, (counts_sentence (codes "clients") (map decimal c.homes) refl, (refl, tt))))));
      spelled = (
        number_line due 1 w (omega arith),
        number_line (codes "seqs") c.seqs seqs_word seqs,
        number_line (codes "shards") c.shards shards_word shards,
        (decimal c.rounds ∷ map row_word c.table, words_of_sentence (window_words c) p4, (decimal c.rounds, map row_word c.table, refl, spelled_decimal c.rounds rounds, spelled_rows c.table table)),
        (map decimal c.homes, words_of_sentence (clients_words c) p5, spelled_decimals c.homes homes),
        (decimal c.consumers, words_of_sentence (codes "consumers" ∷ decimal c.consumers ∷ app_name c.app ∷ []) p6, spelled_decimal c.consumers consumers),
      );
    }

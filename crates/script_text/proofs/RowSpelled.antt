-- Rows and windows: what is judged is what the words spell, both ways.
use Rattle.std.proofs.Common.{◌≡◌, ℕ, ◌<◌, ◌≤◌, ◌&&◌, Bool, true, false, cond, not, nat_lt, nat_le, List, [], ◌∷◌, ◌++◌, map, Option, Some, None, Ok, Err, refl, sym, ap, subst, ◌∙◌, inl, inr, arith}
use Rattle.std.specs.List.{slice_split, onto_first, join_with_byte, list_all, AllZip, AllByRecursion}
use Rattle.std.specs.Str.{all_ascii_digits}
use Rattle.std.specs.Char.{is_ascii_digit}
use Rattle.std.proofs.lemmas.Bool.Decides.{nat_tests}
use Rattle.std.proofs.lemmas.List.Splits.{slice_split-cons_no, join_with_byte-slice_split}
use Rattle.quota_table.specs.Rows.{is_row}
use Rattle.quota_table.specs.Tables.{asked_row, table_fault}
use Rattle.record_codec.specs.Reading.{◌>>=◌}
use Rattle.quota_table.specs.Entries.{AreRounds}
use Rattle.record_codec.proofs.Reading.{bind_ok, chosen, ok_is}
use Rattle.msg_wire.specs.Valid.{IsTableOf}
use Rattle.script_text.specs.Names.{Asked, Row, ScriptKind, TableError}
use Rattle.script_text.specs.Names.kinds
use Rattle.script_text.specs.Words.{is_decimal, value_of, SpellsDecimal}
use Rattle.script_text.specs.Spelled.{SpellsRow, SpellsWindow}
use Rattle.script_text.specs.Judged.{each, from_to, number_where, asked_of, asked_in, rows_of, rows_in, window_of}
use Rattle.script_text.proofs.RowLemmas.{is_colon, and_left, and_right, decimal_whole}
use Rattle.script_text.proofs.NumberLemmas.{number_where_ok, number_where_back, from_to_is, from_to_true, each_ok, each_back}
use Rattle.script_text.proofs.TableLemmas.{IsTable_from_asked, table_fault_none}

-- a row that was asked for, of a cluster with so many shards
record SpellsAsked (shards : ℕ) (word : List ℕ) (a : Asked) : Type 0 where
  row : SpellsRow word (asked_row a)
  shard : a.shard < shards
  quota : a.quota ≤ 4294967295

not_false : (b : Bool) → not b ≡ false → b ≡ true
not_false true e = refl
not_false false e = absurd cc

pair_ok : (shards : ℕ) (word s q : List ℕ) (a : Asked) → s ++ 58 ∷ q ≡ word → asked_of shards (s ∷ q ∷ []) ≡ Ok a → SpellsAsked shards word a
pair_ok shards word s q a parts e =
    elim (chosen (not (is_decimal s && is_decimal q)) (Err kinds.Number) (cond (nat_lt (value_of s) shards && nat_le (value_of q) 4294967295) (Ok (record { shard = value_of s; quota = value_of q })) (Err kinds.Range)) (Ok a) e) [
      | inl h ↦ absurd (let bad = h.1 in cc)
      | inr h ↦
          let both : (is_decimal s && is_decimal q) ≡ true = not_false _ h.0 in
          elim (chosen (nat_lt (value_of s) shards && nat_le (value_of q) 4294967295) (Ok (record { shard = value_of s; quota = value_of q })) (Err kinds.Range) (Ok a) h.1) [
            | inl g ↦ subst (SpellsAsked shards word) (ok_is ScriptKind (record { shard = value_of s; quota = value_of q }) a g.1) (record {
              row = (s, q, sym parts, (and_left _ _ both, refl), (and_right _ _ both, refl));
              shard = grind (arith, nat_tests, g.0);
              quota = grind (arith, nat_tests, g.0);
            })
            | inr g ↦ absurd (let bad = g.1 in cc)
          ]
    ]

parts_ok : (shards : ℕ) (word : List ℕ) (parts : List (List ℕ)) (a : Asked) → join_with_byte 58 parts ≡ word → asked_of shards parts ≡ Ok a
    → SpellsAsked shards word a
parts_ok shards word [] a j e = absurd cc
parts_ok shards word (s ∷ []) a j e = absurd cc
parts_ok shards word (s ∷ q ∷ []) a j e = pair_ok shards word s q a j e
parts_ok shards word (s ∷ q ∷ r ∷ rs) a j e = absurd cc

asked_ok : (shards : ℕ) (word : List ℕ) (a : Asked) → asked_in shards word ≡ Ok a → SpellsAsked shards word a
unfolding asked_in
asked_ok shards word a e = parts_ok shards word (slice_split is_colon word) a (join_with_byte-slice_split 58 word) e

digit_no_colon : (c : ℕ) → is_ascii_digit c ≡ true → is_colon c ≡ false
digit_no_colon c e = grind (arith, nat_tests)

digits_then : (s q : List ℕ) → all_ascii_digits s ≡ true → slice_split is_colon (s ++ 58 ∷ q) ≡ s ∷ slice_split is_colon q
digits_then [] q e = refl
digits_then (c ∷ cs) q e =
    slice_split-cons_no is_colon c (cs ++ 58 ∷ q) (digit_no_colon c (and_left (is_ascii_digit c) (all_ascii_digits cs) e))
    ∙ ap (onto_first c) (digits_then cs q (and_right (is_ascii_digit c) (all_ascii_digits cs) e))

decimal_then : (s q : List ℕ) → is_decimal s ≡ true → slice_split is_colon (s ++ 58 ∷ q) ≡ s ∷ slice_split is_colon q
unfolding is_decimal
decimal_then s q e = digits_then s q (and_right _ (all_ascii_digits s) (and_right _ _ e))

pair_back : (shards : ℕ) (s q : List ℕ) (a : Asked) → SpellsDecimal s a.shard → SpellsDecimal q a.quota → a.shard < shards → a.quota ≤ 4294967295
    → asked_of shards (s ∷ q ∷ []) ≡ Ok a
pair_back shards s q a shard quota low high =
    let few : nat_lt (value_of s) shards ≡ true = grind (arith, nat_tests, shard.1) in
    let fits : nat_le (value_of q) 4294967295 ≡ true = grind (arith, nat_tests, quota.1) in
    rw (shard.0, quota.0, few, fits, ← shard.1, ← quota.1) refl

asked_back : (shards : ℕ) (word : List ℕ) (a : Asked) → SpellsAsked shards word a → asked_in shards word ≡ Ok a
unfolding asked_in
asked_back shards word a h =
    let r = h.row in
    let parts : slice_split is_colon word ≡ r.0 ∷ r.1 ∷ [] =
    ap (slice_split is_colon) r.2 ∙ (decimal_then r.0 r.1 r.3.0 ∙ ap (λ (ps : List (List ℕ)). r.0 ∷ ps) (decimal_whole r.1 r.4.0)) in
    rw parts (pair_back shards r.0 r.1 a r.3 r.4 h.shard h.quota)

-- ---- rows

rows_spelled : (shards : ℕ) (words : List (List ℕ)) (asked : List Asked) → AllZip (SpellsAsked shards) words asked
    → AllZip SpellsRow words (map asked_row asked) × AllByRecursion (λ (r : Row). r.shard < shards) (map asked_row asked)
rows_spelled shards [] [] z = (tt, tt)
rows_spelled shards [] (a ∷ asked) z = absurd z
rows_spelled shards (word ∷ words) [] z = absurd z
rows_spelled shards (word ∷ words) (a ∷ asked) z =
    let rest = rows_spelled shards words asked z.1 in ((z.0.row, rest.0), (z.0.shard, rest.1))

rows_of_ok : (asked : List Asked) (fault : Option TableError) (rows : List Row) → rows_of asked fault ≡ Ok rows → (fault ≡ None) × (map asked_row asked ≡ rows)
rows_of_ok asked None rows e = (refl, ok_is ScriptKind (map asked_row asked) rows e)
rows_of_ok asked (Some error) rows e = absurd cc

pub rows_in_ok : (shards : ℕ) (words : List (List ℕ)) (rows : List Row) → rows_in shards words ≡ Ok rows → AllZip SpellsRow words rows × IsTableOf shards rows
unfolding rows_in
rows_in_ok shards words rows e =
    let a = bind_ok (each (asked_in shards) words) (λ asked. rows_of asked (table_fault asked)) rows e in
    let r = rows_of_ok a.0 (table_fault a.0) rows a.2 in
    let s = rows_spelled shards words a.0 (each_ok (asked_in shards) (SpellsAsked shards) (asked_ok shards) words a.0 a.1) in
    let P : List Row → Type 0 = λ rs. AllZip SpellsRow words rs × IsTableOf shards rs in
    subst P r.1 (s.0, record { table = IsTable_from_asked a.0 r.0; have_nodes = s.1 })

-- a row as it would be asked for
as_asked : Row → Asked
as_asked r = record { shard = r.shard; quota = r.quota }

asked_again : (rows : List Row) → map asked_row (map as_asked rows) ≡ rows
unfolding as_asked
asked_again [] = refl
asked_again (r ∷ rows) = ap (λ (rs : List Row). r ∷ rs) (asked_again rows)

rows_asked : (shards : ℕ) (words : List (List ℕ)) (rows : List Row) → AllZip SpellsRow words rows → AllByRecursion (λ (r : Row). r.shard < shards) rows
    → list_all is_row rows ≡ true → AllZip (SpellsAsked shards) words (map as_asked rows)
unfolding as_asked
rows_asked shards [] [] z n v = tt
rows_asked shards [] (r ∷ rows) z n v = absurd z
rows_asked shards (word ∷ words) [] z n v = absurd z
rows_asked shards (word ∷ words) (r ∷ rows) z n v =
    let here : is_row r ≡ true = and_left (is_row r) (list_all is_row rows) v in
    (record { row = z.0; shard = n.0; quota = grind (arith, nat_tests, here) }, rows_asked shards words rows z.1 n.1 (and_right (is_row r) (list_all is_row rows) v))

pub rows_in_back : (shards : ℕ) (words : List (List ℕ)) (rows : List Row) → AllZip SpellsRow words rows → IsTableOf shards rows → rows_in shards words ≡ Ok rows
unfolding rows_in
rows_in_back shards words rows z t =
    let asked = map as_asked rows in
    let judged : each (asked_in shards) words ≡ Ok asked = each_back (asked_in shards) (SpellsAsked shards) (asked_back shards) words asked (rows_asked shards words rows z t.have_nodes t.table.within) in
    let none : table_fault asked ≡ None = table_fault_none asked (rw (asked_again rows) t.table) in
    rw (judged, none) (ap Ok (asked_again rows))

-- ---- rounds and rows

pub window_of_ok : (shards : ℕ) (word : List ℕ) (words : List (List ℕ)) (w : ℕ × List Row) → window_of shards word words ≡ Ok w
    → SpellsWindow (word ∷ words) w.0 w.1 × AreRounds w.0 × IsTableOf shards w.1
unfolding window_of
window_of_ok shards word words w e =
    let a = bind_ok (number_where (from_to 1 1024) word) (λ rounds. rows_in shards words >>= λ rows. Ok (rounds, rows)) w e in
    let b = bind_ok (rows_in shards words) (λ rows. Ok (a.0, rows)) w a.2 in
    let n = number_where_ok (from_to 1 1024) word a.0 a.1 in
    let r = rows_in_ok shards words b.0 b.1 in
    let P : ℕ × List Row → Type 0 = λ x. SpellsWindow (word ∷ words) x.0 x.1 × AreRounds x.0 × IsTableOf shards x.1 in
    subst P (ok_is ScriptKind (a.0, b.0) w b.2) ((word, words, refl, n.0, r.0), from_to_is 1 1024 a.0 n.1, r.1)

pub window_of_back : (shards : ℕ) (word : List ℕ) (words : List (List ℕ)) (rounds : ℕ) (rows : List Row) → SpellsDecimal word rounds
    → AllZip SpellsRow words rows → AreRounds rounds → IsTableOf shards rows → window_of shards word words ≡ Ok (rounds, rows)
unfolding window_of
window_of_back shards word words rounds rows n z k t =
    rw (number_where_back (from_to 1 1024) word rounds n (from_to_true 1 1024 rounds k.0 k.1), rows_in_back shards words rows z t) refl

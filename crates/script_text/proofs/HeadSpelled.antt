-- The head: what is judged is what its lines spell, both ways.
use Rattle.std.proofs.Common.{◌≡◌, ◌⊎◌, ℕ, ◌≤◌, ◌==◌, ◌&&◌, Bool, true, false, nat_lt, IsTrue, List, [], ◌∷◌, length, Ok, Err, codes, refl, ap, subst, ◌∙◌, inl, inr, arith}
use Rattle.std.specs.List.{AllZip, AllByRecursion}
use Rattle.std.proofs.lemmas.Bool.Decides.{nat_tests}
use Rattle.std.proofs.lemmas.Slice.Zip.{AllZip-long}
use Rattle.quota_table.specs.Rows.{has_shard}
use Rattle.record_codec.specs.Reading.{◌>>=◌}
use Rattle.quota_table.specs.Entries.{AreRounds}
use Rattle.record_codec.proofs.Reading.{bind_ok, chosen, ok_is}
use Rattle.msg_wire.specs.Valid.{IsTableOf}
use Rattle.script_text.specs.Names.{Row, AppKind, ScriptKind}
use Rattle.script_text.specs.Names.apps
use Rattle.script_text.specs.Names.kinds
use Rattle.script_text.specs.Words.{is_printable, words_of, is_word, is_decimal, value_of, SpellsDecimal}
use Rattle.script_text.specs.Spelled.{SpellsNumber, SpellsWindow, app_name}
use Rattle.script_text.specs.Judged.{each, from_to, number_where, first_of, both_of, due_in, window_of, version_of, version_in, is_majority_size, seqs_in, shards_in, window_in, homes_of, clients_in, app_in, consumers_in}
use Rattle.script_text.proofs.NumberLemmas.{first_of_ok, both_of_ok, is_word_same, due_in_ok, due_in_back, number_where_ok, number_where_back, from_to_is, from_to_true, due_number_ok, due_number_back, each_ok, each_back}
use Rattle.script_text.proofs.RowSpelled.{window_of_ok, window_of_back}

-- ---- the version

version_ok : (words : List (List ℕ)) (word : List ℕ) (rest : List (List ℕ)) (v : ℕ) (a b : Bool) → (is_decimal word && (value_of word == 1)) ≡ a
    → nat_lt 0 (length rest) ≡ b → version_of (word ∷ rest) ≡ Ok v → (rest ≡ []) × SpellsDecimal word 1
unfolding version_of
version_ok words word rest v false b d w e = let bad = rw d at e in absurd cc
version_ok words word rest v true true d w e = let bad = rw (d, w) at e in absurd cc
version_ok words word [] v true false d w e = (refl, (grind (arith, nat_tests, d), grind (arith, nat_tests, d)))
version_ok words word (r ∷ rs) v true false d w e = absurd (grind (arith, nat_tests, w))

version_some : (words : List (List ℕ)) (v : ℕ) → version_of words ≡ Ok v → (word : List ℕ) × (words ≡ word ∷ []) × SpellsDecimal word 1
unfolding version_of
version_some [] v e = absurd cc
version_some (word ∷ rest) v e =
    let h = version_ok [] word rest v (is_decimal word && (value_of word == 1)) (nat_lt 0 (length rest)) refl refl e in
    (word, ap (λ (ws : List (List ℕ)). word ∷ ws) h.0, h.1)

pub version_in_ok : (due line : List ℕ) (v : ℕ) → version_in due line ≡ Ok v → IsTrue (is_printable line) × SpellsNumber due (words_of line) 1
unfolding version_in
version_in_ok due line v e =
    let a = bind_ok (due_in due line) (λ words. version_of words) v e in
    let d = due_in_ok due line a.0 a.1 in
    let s = version_some a.0 v a.2 in
    (d.0, (s.0, d.1 ∙ ap (λ (ws : List (List ℕ)). due ∷ ws) s.1, s.2))

version_one : (word : List ℕ) → SpellsDecimal word 1 → version_of (word ∷ []) ≡ Ok 1
unfolding version_of
version_one word s = let one : (value_of word == 1) ≡ true = grind (arith, nat_tests, s.1) in rw (s.0, one) refl

pub version_in_back : (due line : List ℕ) → IsTrue (is_printable line) → SpellsNumber due (words_of line) 1 → version_in due line ≡ Ok 1
unfolding version_in
version_in_back due line p s = rw (due_in_back due line (s.0 ∷ []) p s.1) (version_one s.0 s.2)

-- ---- sequencers and shards

pub seqs_in_ok : (line : List ℕ) (n : ℕ) → seqs_in line ≡ Ok n
    → IsTrue (is_printable line) × SpellsNumber (codes "seqs") (words_of line) n × IsTrue (is_majority_size n)
unfolding seqs_in
seqs_in_ok line n e = due_number_ok (codes "seqs") is_majority_size line n e

pub seqs_in_back : (line : List ℕ) (n : ℕ) → IsTrue (is_printable line) → SpellsNumber (codes "seqs") (words_of line) n → IsTrue (is_majority_size n)
    → seqs_in line ≡ Ok n
unfolding seqs_in
seqs_in_back line n p s w = due_number_back (codes "seqs") is_majority_size line n p s w

pub majority_is : (n : ℕ) → IsTrue (is_majority_size n) → (n ≡ 1) ⊎ (n ≡ 3) ⊎ (n ≡ 5)
majority_is n e = grind (arith, nat_tests)

pub majority_true : (n : ℕ) → (n ≡ 1) ⊎ (n ≡ 3) ⊎ (n ≡ 5) → IsTrue (is_majority_size n)
majority_true n h = grind (arith, nat_tests)

pub shards_in_ok : (line : List ℕ) (n : ℕ) → shards_in line ≡ Ok n
    → IsTrue (is_printable line) × SpellsNumber (codes "shards") (words_of line) n × IsTrue (from_to 1 6 n)
unfolding shards_in
shards_in_ok line n e = due_number_ok (codes "shards") (from_to 1 6) line n e

pub shards_in_back : (line : List ℕ) (n : ℕ) → IsTrue (is_printable line) → SpellsNumber (codes "shards") (words_of line) n → IsTrue (from_to 1 6 n)
    → shards_in line ≡ Ok n
unfolding shards_in
shards_in_back line n p s w = due_number_back (codes "shards") (from_to 1 6) line n p s w

-- ---- the first window

abbrev pub SpellsWindowLine : List ℕ → ℕ → List Row → Type 0
SpellsWindowLine line rounds rows = (words : List (List ℕ)) × (words_of line ≡ codes "window" ∷ words) × SpellsWindow words rounds rows

pub window_in_ok : (shards : ℕ) (line : List ℕ) (w : ℕ × List Row) → window_in shards line ≡ Ok w
    → IsTrue (is_printable line) × SpellsWindowLine line w.0 w.1 × AreRounds w.0 × IsTableOf shards w.1
unfolding window_in
window_in_ok shards line w e =
    let a = bind_ok (due_in (codes "window") line) (λ words. first_of words >>= λ first. window_of shards first.0 first.1) w e in
    let b = bind_ok (first_of a.0) (λ first. window_of shards first.0 first.1) w a.2 in
    let d = due_in_ok (codes "window") line a.0 a.1 in
    let h = window_of_ok shards b.0.0 b.0.1 w b.2 in
    (d.0, (b.0.0 ∷ b.0.1, d.1 ∙ ap (λ (ws : List (List ℕ)). codes "window" ∷ ws) (first_of_ok a.0 b.0 b.1), h.0), h.1, h.2)

pub window_in_back : (shards : ℕ) (line : List ℕ) (rounds : ℕ) (rows : List Row) → IsTrue (is_printable line) → SpellsWindowLine line rounds rows
    → AreRounds rounds → IsTableOf shards rows → window_in shards line ≡ Ok (rounds, rows)
unfolding window_in
window_in_back shards line rounds rows p s k t =
    let w = s.2 in
    rw (due_in_back (codes "window") line s.0 p s.1, w.2) (window_of_back shards w.0 w.1 rounds rows w.3 w.4 k t)

-- ---- clients

abbrev pub HasRow : List Row → ℕ → Type 0
HasRow rows home = IsTrue (has_shard home rows)

homes_apart : (rows : List Row) (words : List (List ℕ)) (homes : List ℕ) → AllZip (λ word home. SpellsDecimal word home × HasRow rows home) words homes
    → AllZip SpellsDecimal words homes × AllByRecursion (HasRow rows) homes
homes_apart rows [] [] z = (tt, tt)
homes_apart rows [] (h ∷ homes) z = absurd z
homes_apart rows (word ∷ words) [] z = absurd z
homes_apart rows (word ∷ words) (h ∷ homes) z = let rest = homes_apart rows words homes z.1 in ((z.0.0, rest.0), (z.0.1, rest.1))

homes_joined : (rows : List Row) (words : List (List ℕ)) (homes : List ℕ) → AllZip SpellsDecimal words homes → AllByRecursion (HasRow rows) homes
    → AllZip (λ word home. SpellsDecimal word home × HasRow rows home) words homes
homes_joined rows [] [] z h = tt
homes_joined rows [] (x ∷ homes) z h = absurd z
homes_joined rows (word ∷ words) [] z h = absurd z
homes_joined rows (word ∷ words) (x ∷ homes) z h = ((z.0, h.0), homes_joined rows words homes z.1 h.1)

homes_of_ok : (rows : List Row) (words : List (List ℕ)) (homes : List ℕ) → homes_of rows words ≡ Ok homes
    → AllZip SpellsDecimal words homes × AllByRecursion (HasRow rows) homes × (1 ≤ length homes) × (length homes ≤ 6)
unfolding homes_of
homes_of_ok rows words homes e =
    elim (chosen (from_to 1 6 (length words)) (each (number_where (λ home. has_shard home rows)) words) (Err kinds.Word) (Ok homes) e) [
      | inl h ↦
          let z = each_ok (number_where (λ home. has_shard home rows)) (λ word home. SpellsDecimal word home × HasRow rows home) (number_where_ok (λ home. has_shard home rows)) words homes h.1 in
          let apart = homes_apart rows words homes z in
          let size : length homes ≡ length words = AllZip-long SpellsDecimal words homes apart.0 in
          let bounds = from_to_is 1 6 (length words) h.0 in
          (apart.0, apart.1, omega (arith, bounds.0), omega (arith, bounds.1))
      | inr h ↦ absurd (let bad = h.1 in cc)
    ]

homes_of_back : (rows : List Row) (words : List (List ℕ)) (homes : List ℕ) → AllZip SpellsDecimal words homes → AllByRecursion (HasRow rows) homes
    → 1 ≤ length homes → length homes ≤ 6 → homes_of rows words ≡ Ok homes
unfolding homes_of
homes_of_back rows words homes z h some few =
    let size : length homes ≡ length words = AllZip-long SpellsDecimal words homes z in
    rw (from_to_true 1 6 (length words) (omega arith) (omega arith))
    (each_back (number_where (λ home. has_shard home rows)) (λ word home. SpellsDecimal word home × HasRow rows home) (λ word home s. number_where_back (λ home. has_shard home rows) word home s.0 s.1) words homes (homes_joined rows words homes z h))

abbrev pub SpellsClients : List ℕ → List ℕ → Type 0
SpellsClients line homes = (words : List (List ℕ)) × (words_of line ≡ codes "clients" ∷ words) × AllZip SpellsDecimal words homes

pub clients_in_ok : (rows : List Row) (line homes : List ℕ) → clients_in rows line ≡ Ok homes
    → IsTrue (is_printable line) × SpellsClients line homes × AllByRecursion (HasRow rows) homes × (1 ≤ length homes) × (length homes ≤ 6)
unfolding clients_in
clients_in_ok rows line homes e =
    let a = bind_ok (due_in (codes "clients") line) (λ words. homes_of rows words) homes e in
    let d = due_in_ok (codes "clients") line a.0 a.1 in
    let h = homes_of_ok rows a.0 homes a.2 in
    (d.0, (a.0, d.1, h.0), h.1, h.2, h.3)

pub clients_in_back : (rows : List Row) (line homes : List ℕ) → IsTrue (is_printable line) → SpellsClients line homes → AllByRecursion (HasRow rows) homes
    → 1 ≤ length homes → length homes ≤ 6 → clients_in rows line ≡ Ok homes
unfolding clients_in
clients_in_back rows line homes p s h some few = rw (due_in_back (codes "clients") line s.0 p s.1) (homes_of_back rows s.0 homes s.2 h some few)

-- ---- consumers

named_app : (word : List ℕ) (app : AppKind) (a b c : Bool) → is_word (app_name apps.Tally) word ≡ a → is_word (app_name apps.Bank) word ≡ b
    → is_word (app_name apps.Kv) word ≡ c → app_in word ≡ Ok app → word ≡ app_name app
unfolding app_in
named_app word app true b c x y z e = is_word_same (app_name apps.Tally) word x ∙ ap app_name (ok_is ScriptKind apps.Tally app (rw x at e))
named_app word app false true c x y z e = is_word_same (app_name apps.Bank) word y ∙ ap app_name (ok_is ScriptKind apps.Bank app (rw (x, y) at e))
named_app word app false false true x y z e = is_word_same (app_name apps.Kv) word z ∙ ap app_name (ok_is ScriptKind apps.Kv app (rw (x, y, z) at e))
named_app word app false false false x y z e = let bad = rw (x, y, z) at e in absurd cc

app_in_ok : (word : List ℕ) (app : AppKind) → app_in word ≡ Ok app → word ≡ app_name app
app_in_ok word app e = named_app word app (is_word (app_name apps.Tally) word) (is_word (app_name apps.Bank) word) (is_word (app_name apps.Kv) word) refl refl refl e

app_in_back : (app : AppKind) → app_in (app_name app) ≡ Ok app
unfolding app_in
app_in_back apps.Tally = refl
app_in_back apps.Bank = refl
app_in_back apps.Kv = refl

abbrev pub SpellsConsumers : List ℕ → ℕ → AppKind → Type 0
SpellsConsumers line consumers app = (count : List ℕ) × (words_of line ≡ codes "consumers" ∷ count ∷ app_name app ∷ []) × SpellsDecimal count consumers

pub consumers_in_ok : (line : List ℕ) (k : ℕ × AppKind) → consumers_in line ≡ Ok k
    → IsTrue (is_printable line) × SpellsConsumers line k.0 k.1 × IsTrue (from_to 1 4 k.0)
unfolding consumers_in
consumers_in_ok line k e =
    let a = bind_ok (due_in (codes "consumers") line) (λ words. both_of words >>= λ both. app_in both.1 >>= λ app. number_where (from_to 1 4) both.0 >>= λ count. Ok (count, app)) k e in
    let b = bind_ok (both_of a.0) (λ both. app_in both.1 >>= λ app. number_where (from_to 1 4) both.0 >>= λ count. Ok (count, app)) k a.2 in
    let x = bind_ok (app_in b.0.1) (λ app. number_where (from_to 1 4) b.0.0 >>= λ count. Ok (count, app)) k b.2 in
    let n = bind_ok (number_where (from_to 1 4) b.0.0) (λ count. Ok (count, x.0)) k x.2 in
    let d = due_in_ok (codes "consumers") line a.0 a.1 in
    let s = number_where_ok (from_to 1 4) b.0.0 n.0 n.1 in
    let words : words_of line ≡ codes "consumers" ∷ b.0.0 ∷ app_name x.0 ∷ [] =
    d.1 ∙ (ap (λ (ws : List (List ℕ)). codes "consumers" ∷ ws) (both_of_ok a.0 b.0 b.1) ∙ ap (λ (w : List ℕ). codes "consumers" ∷ b.0.0 ∷ w ∷ []) (app_in_ok b.0.1 x.0 x.1)) in
    let P : ℕ × AppKind → Type 0 = λ q. IsTrue (is_printable line) × SpellsConsumers line q.0 q.1 × IsTrue (from_to 1 4 q.0) in
    subst P (ok_is ScriptKind (n.0, x.0) k n.2) (d.0, (b.0.0, words, s.0), s.1)

pub consumers_in_back : (line : List ℕ) (consumers : ℕ) (app : AppKind) → IsTrue (is_printable line) → SpellsConsumers line consumers app
    → IsTrue (from_to 1 4 consumers) → consumers_in line ≡ Ok (consumers, app)
unfolding consumers_in
consumers_in_back line consumers app p s w =
    rw (due_in_back (codes "consumers") line (s.0 ∷ app_name app ∷ []) p s.1, app_in_back app, number_where_back (from_to 1 4) s.0 consumers s.2 w) refl

-- Of lines that are refused at one of them, those before it spell a script.
use Rattle.std.proofs.Common.{◌≡◌, ℕ, zero, suc, ◌+◌, ◌-◌, ◌<◌, ◌≤◌, Bool, true, false, cond, List, [], ◌∷◌, ◌++◌, length, take, drop, Result, Ok, Err, refl, sym, ap, subst, ◌∙◌, arith, length-take}
use Rattle.std.specs.List.{AllByRecursion}
use Rattle.std.specs.Str.Lines.{lines}
use Rattle.std.proofs.lemmas.List.{take-append-drop}
use Rattle.record_codec.specs.Reading.{◌>>=◌}
use Rattle.script_text.specs.Names.{Row, AppKind, Config, Input, ScriptKind}
use Rattle.script_text.specs.Lines.{Line, counts, counted_from, counted_lines, left_of, whole, end_of}
use Rattle.script_text.specs.Spelled.{script_word}
use Rattle.script_text.specs.Judged.{Judged, version_in, seqs_in, shards_in, window_in, clients_in, consumers_in, input_in}
use Rattle.script_text.specs.Reading.{Refusal, on_line, due_line, head_in, inputs_in, lines_in, script_in, IsRefusedAt}
use Rattle.script_text.specs.Scripts.{SpellsLines, SpellsScript, lines_before}
use Rattle.script_text.proofs.HeadLemmas.{cluster, from_sixth, from_fifth, from_fourth, from_third, from_second, head_in_ok}

-- a value, and the lines that are left
abbrev paired : {X : Type 0} → X → List Line → Result (X × List Line) Refusal
paired x left = Ok (x, left)

-- more lines behind those that are left
with_more : {X : Type 0} → List Line → Result (X × List Line) Refusal → Result (X × List Line) Refusal
with_more more (Ok (x, left)) = Ok (x, left ++ more)
with_more more (Err refusal) = Err refusal

-- a refusal is of a line below a number
abbrev Below : {X : Type 0} → ℕ → Result X Refusal → Type 0
Below line (Ok x) = Unit {0}
Below line (Err refusal) = refusal.0 < line

abbrev AllBelow : ℕ → List Line → Type 0
AllBelow line = AllByRecursion (λ (l : Line). l.number < line)

-- ---- a due line, and what goes on behind it

module _ {X Y : Type 0} (end other : ℕ) (judge : List ℕ → Judged X) (go_on go_other : X → List Line → Result (Y × List Line) Refusal) where
  on_more : (r : Result X Refusal) (left more : List Line) → ((x : X) → go_on x (left ++ more) ≡ with_more more (go_other x left))
      → (r >>= λ x. go_on x (left ++ more)) ≡ with_more more (r >>= λ x. go_other x left)
  unfolding with_more
  on_more (Ok x) left more h = h x
  on_more (Err refusal) left more h = refl

  join : (r : Result X Refusal) (left : List Line) (go : X → List Line → Result (Y × List Line) Refusal)
      → ((r >>= λ x. paired x left) >>= λ p. go p.0 p.1) ≡ (r >>= λ x. go x left)
  join (Ok x) left go = refl
  join (Err refusal) left go = refl

  due_more : (n : ℕ) (front more : List Line) → suc n ≤ length front
      → ((x : X) (left : List Line) → n ≤ length left → go_on x (left ++ more) ≡ with_more more (go_other x left))
      → (due_line end judge (front ++ more) >>= λ p. go_on p.0 p.1) ≡ with_more more (due_line other judge front >>= λ p. go_other p.0 p.1)
  due_more n [] more some h = absurd (omega arith)
  due_more n (l ∷ left) more some h =
      let r = on_line l.number (judge l.bytes) in
      join r (left ++ more) go_on ∙ (on_more r left more (λ x. h x left (omega arith)) ∙ ap (with_more more) (sym (join r left go_other)))

  on_below : (line number : ℕ) (j : Judged X) (left : List Line) → number < line → ((x : X) → Below line (go_other x left))
      → Below line ((on_line number j >>= λ x. paired x left) >>= λ p. go_other p.0 p.1)
  on_below line number (Ok x) left few h = h x
  on_below line number (Err kind) left few h = few

  due_below : (line n : ℕ) (front : List Line) → AllBelow line front → suc n ≤ length front
      → ((x : X) (left : List Line) → AllBelow line left → n ≤ length left → Below line (go_other x left))
      → Below line (due_line other judge front >>= λ p. go_other p.0 p.1)
  due_below line n [] few some h = absurd (omega arith)
  due_below line n (l ∷ left) few some h = on_below line l.number (judge l.bytes) left few.0 (λ x. h x left few.1 (omega arith))

-- ---- the head

abbrev done : ℕ → ℕ → ℕ × List Row → List ℕ → ℕ × AppKind → List Line → Result (Config × List Line) Refusal
done seqs shards window homes consumers left = Ok (cluster seqs shards window homes consumers, left)

abbrev second : ℕ → ℕ → List Line → Result (Config × List Line) Refusal
second end version = from_second end

module _ (end other : ℕ) (more : List Line) where
  more_sixth : (seqs shards : ℕ) (window : ℕ × List Row) (homes : List ℕ) (left : List Line) → 1 ≤ length left
      → from_sixth end seqs shards window homes (left ++ more) ≡ with_more more (from_sixth other seqs shards window homes left)
  unfolding with_more
  more_sixth seqs shards window homes left some = due_more end other consumers_in (done seqs shards window homes) (done seqs shards window homes) 0 left more some (λ x rest few. refl)

  more_fifth : (seqs shards : ℕ) (window : ℕ × List Row) (left : List Line) → 2 ≤ length left
      → from_fifth end seqs shards window (left ++ more) ≡ with_more more (from_fifth other seqs shards window left)
  more_fifth seqs shards window left some = due_more end other (clients_in window.1) (from_sixth end seqs shards window) (from_sixth other seqs shards window) 1 left more some (more_sixth seqs shards window)

  more_fourth : (seqs shards : ℕ) (left : List Line) → 3 ≤ length left
      → from_fourth end seqs shards (left ++ more) ≡ with_more more (from_fourth other seqs shards left)
  more_fourth seqs shards left some = due_more end other (window_in shards) (from_fifth end seqs shards) (from_fifth other seqs shards) 2 left more some (more_fifth seqs shards)

  more_third : (seqs : ℕ) (left : List Line) → 4 ≤ length left → from_third end seqs (left ++ more) ≡ with_more more (from_third other seqs left)
  more_third seqs left some = due_more end other shards_in (from_fourth end seqs) (from_fourth other seqs) 3 left more some (more_fourth seqs)

  more_second : (version : ℕ) (left : List Line) → 5 ≤ length left → second end version (left ++ more) ≡ with_more more (second other version left)
  more_second version left some = due_more end other seqs_in (from_third end) (from_third other) 4 left more some more_third

  head_more : (front : List Line) → 6 ≤ length front → head_in script_word end (front ++ more) ≡ with_more more (head_in script_word other front)
  unfolding head_in
  head_more front some = due_more end other (version_in script_word) (second end) (second other) 5 front more some more_second

module _ (other line : ℕ) where
  below_sixth : (seqs shards : ℕ) (window : ℕ × List Row) (homes : List ℕ) (left : List Line) → AllBelow line left → 1 ≤ length left
      → Below line (from_sixth other seqs shards window homes left)
  below_sixth seqs shards window homes left few some = due_below other other consumers_in (done seqs shards window homes) (done seqs shards window homes) line 0 left few some (λ x rest f s. tt)

  below_fifth : (seqs shards : ℕ) (window : ℕ × List Row) (left : List Line) → AllBelow line left → 2 ≤ length left
      → Below line (from_fifth other seqs shards window left)
  below_fifth seqs shards window left few some = due_below other other (clients_in window.1) (from_sixth other seqs shards window) (from_sixth other seqs shards window) line 1 left few some (below_sixth seqs shards window)

  below_fourth : (seqs shards : ℕ) (left : List Line) → AllBelow line left → 3 ≤ length left → Below line (from_fourth other seqs shards left)
  below_fourth seqs shards left few some = due_below other other (window_in shards) (from_fifth other seqs shards) (from_fifth other seqs shards) line 2 left few some (below_fifth seqs shards)

  below_third : (seqs : ℕ) (left : List Line) → AllBelow line left → 4 ≤ length left → Below line (from_third other seqs left)
  below_third seqs left few some = due_below other other shards_in (from_fourth other seqs) (from_fourth other seqs) line 3 left few some (below_fourth seqs)

  below_second : (version : ℕ) (left : List Line) → AllBelow line left → 5 ≤ length left → Below line (second other version left)
  below_second version left few some = due_below other other seqs_in (from_third other) (from_third other) line 4 left few some below_third

  head_below : (front : List Line) → AllBelow line front → 6 ≤ length front → Below line (head_in script_word other front)
  unfolding head_in
  head_below front few some = due_below other other (version_in script_word) (second other) (second other) line 5 front few some below_second

-- ---- the inputs

first_below : (line number : ℕ) (j : Judged Input) (r : Result (List Input) Refusal) → number < line → Below line r
    → Below line (on_line number j >>= λ x. r >>= λ xs. Ok (x ∷ xs))
first_below line number (Ok x) (Ok xs) few h = tt
first_below line number (Ok x) (Err refusal) few h = h
first_below line number (Err kind) r few h = few

inputs_below : (c : Config) (line : ℕ) (front : List Line) → AllBelow line front → Below line (inputs_in c front)
inputs_below c line [] few = tt
inputs_below c line (l ∷ front) few = first_below line l.number (input_in c l.bytes) (inputs_in c front) few.0 (inputs_below c line front few.1)

first_stop : (number : ℕ) (j : Judged Input) (r s : Result (List Input) Refusal) (refusal : Refusal) → (r ≡ Err refusal → s ≡ Err refusal)
    → (on_line number j >>= λ x. r >>= λ xs. Ok (x ∷ xs)) ≡ Err refusal → (on_line number j >>= λ x. s >>= λ xs. Ok (x ∷ xs)) ≡ Err refusal
first_stop number (Ok x) (Ok xs) s refusal h e = absurd cc
first_stop number (Ok x) (Err other) s refusal h e = rw (h e) refl
first_stop number (Err kind) r s refusal h e = e

inputs_stop : (c : Config) (front more : List Line) (refusal : Refusal) → inputs_in c front ≡ Err refusal → inputs_in c (front ++ more) ≡ Err refusal
inputs_stop c [] more refusal e = absurd cc
inputs_stop c (l ∷ front) more refusal e = first_stop l.number (input_in c l.bytes) (inputs_in c front) (inputs_in c (front ++ more)) refusal (inputs_stop c front more refusal) e

-- ---- all lines

abbrev Taken : ℕ → List Line → Type 0
Taken other front = (c : Config) × (inputs : List Input) × (lines_in other front ≡ Ok (c, inputs))

below_rest : (line n : ℕ) (front : List Line) → AllBelow line front → AllBelow line (drop n front)
below_rest line zero front few = few
below_rest line (suc n) [] few = tt
below_rest line (suc n) (l ∷ front) few = below_rest line n front few.1

not_there : (line : ℕ) (kind : ScriptKind) (refusal : Refusal) → refusal.0 < line → refusal ≡ (line, kind) → ⊥
not_there line kind refusal few same = omega (arith, few, ap (λ (r : Refusal). r.0) same)

same_refusal : (r : Result (Config × List Input) Refusal) (a b : Refusal) → r ≡ Err a → r ≡ Err b → a ≡ b
same_refusal r a b e f = cc

from_inputs : (end other line : ℕ) (kind : ScriptKind) (front more : List Line) (c : Config) (left : List Line) (s : Result (List Input) Refusal)
    → head_in script_word other front ≡ Ok (c, left) → head_in script_word end (front ++ more) ≡ Ok (c, left ++ more) → inputs_in c left ≡ s → Below line s
    → lines_in end (front ++ more) ≡ Err (line, kind) → Taken other front
unfolding lines_in
from_inputs end other line kind front more c left (Ok inputs) h whole_head i few refused = (c, inputs, rw (h, i) refl)
from_inputs end other line kind front more c left (Err refusal) h whole_head i few refused =
    let stopped : lines_in end (front ++ more) ≡ Err refusal = rw (whole_head, inputs_stop c left more refusal i) refl in
    absurd (not_there line kind refusal few (same_refusal (lines_in end (front ++ more)) refusal (line, kind) stopped refused))

from_head : (end other line : ℕ) (kind : ScriptKind) (front more : List Line) (r : Result (Config × List Line) Refusal) → AllBelow line front
    → head_in script_word other front ≡ r → head_in script_word end (front ++ more) ≡ with_more more r → Below line r → lines_in end (front ++ more) ≡ Err (line, kind)
    → Taken other front
unfolding lines_in with_more
from_head end other line kind front more (Ok (c, left)) few h whole_head below refused =
    let rest : left ≡ drop 6 front = (head_in_ok script_word other front (c, left) h).rest_is in
    let P : List Line → Type 0 = AllBelow line in
    let left_few : AllBelow line left = subst P (sym rest) (below_rest line 6 front few) in
    from_inputs end other line kind front more c left (inputs_in c left) h whole_head refl (inputs_below c line left left_few) refused
from_head end other line kind front more (Err refusal) few h whole_head below refused =
    let stopped : lines_in end (front ++ more) ≡ Err refusal = rw whole_head refl in
    absurd (not_there line kind refusal below (same_refusal (lines_in end (front ++ more)) refusal (line, kind) stopped refused))

taken_front : (end other line : ℕ) (kind : ScriptKind) (front more : List Line) → AllBelow line front → 6 ≤ length front
    → lines_in end (front ++ more) ≡ Err (line, kind) → Taken other front
taken_front end other line kind front more few six refused =
    from_head end other line kind front more (head_in script_word other front) few refl (head_more end other more front six) (head_below other line front few six) refused

-- ---- numbered lines

counted_on : (b : Bool) (l : Line) (xs ys rest : List Line) → rest ≡ xs ++ ys → cond b (l ∷ rest) rest ≡ cond b (l ∷ xs) xs ++ ys
counted_on true l xs ys rest e = ap (λ (t : List Line). l ∷ t) e
counted_on false l xs ys rest e = e

counted_append : (number : ℕ) (xs ys : List (List ℕ)) → counted_from number (xs ++ ys) ≡ counted_from number xs ++ counted_from (number + length xs) ys
counted_append number [] ys = ap (λ (n : ℕ). counted_from n ys) (omega arith)
counted_append number (x ∷ xs) ys =
    let at : number + 1 + length xs ≡ number + length (x ∷ xs) = omega arith in
    counted_on (counts x) (record { number = number; bytes = x }) (counted_from (number + 1) xs) (counted_from (number + length (x ∷ xs)) ys) (counted_from (number + 1) (xs ++ ys))
    (counted_append (number + 1) xs ys ∙ ap (λ (n : ℕ). counted_from (number + 1) xs ++ counted_from n ys) at)

below_on : (line : ℕ) (b : Bool) (l : Line) (rest : List Line) → l.number < line → AllBelow line rest → AllBelow line (cond b (l ∷ rest) rest)
below_on line true l rest h few = (h, few)
below_on line false l rest h few = few

counted_below : (line number : ℕ) (xs : List (List ℕ)) → number + length xs ≤ line → AllBelow line (counted_from number xs)
counted_below line number [] h = tt
counted_below line number (x ∷ xs) h = below_on line (counts x) (record { number = number; bytes = x }) (counted_from (number + 1) xs) (omega arith) (counted_below line (number + 1) xs (omega arith))

shorter_on : (b : Bool) (l : Line) (rest : List Line) (n : ℕ) → length rest ≤ n → length (cond b (l ∷ rest) rest) ≤ suc n
shorter_on true l rest n h = omega arith
shorter_on false l rest n h = omega arith

counted_shorter : (number : ℕ) (xs : List (List ℕ)) → length (counted_from number xs) ≤ length xs
counted_shorter number [] = omega arith
counted_shorter number (x ∷ xs) = shorter_on (counts x) (record { number = number; bytes = x }) (counted_from (number + 1) xs) (length xs) (counted_shorter (number + 1) xs)

-- ---- a text cut before a line

cut_counted : (text cut : List ℕ) (line : ℕ) → lines cut ≡ take (line - 1) (lines text) → counted_lines cut ≡ lines_before line text
unfolding left_of
cut_counted text cut line e = ap (counted_from 1) e

parted : (text : List ℕ) (n : ℕ)
    → counted_lines text ≡ counted_from 1 (take n (lines text)) ++ counted_from (1 + length (take n (lines text))) (drop n (lines text))
unfolding left_of
parted text n = ap (counted_from 1) (sym (take-append-drop n (lines text))) ∙ counted_append 1 (take n (lines text)) (drop n (lines text))

pub before_taken : (text cut : List ℕ) (line : ℕ) → lines cut ≡ take (line - 1) (lines text) → IsRefusedAt line text → 6 ≤ length (lines_before line text)
    → (c : Config) × (inputs : List Input) × (script_in cut ≡ Ok (c, inputs))
before_taken text cut line e refused six =
    let front = lines_before line text in
    let more = counted_from (1 + length (take (line - 1) (lines text))) (drop (line - 1) (lines text)) in
    let size : 1 + length (take (line - 1) (lines text)) ≤ line = omega (arith, length-take (line - 1) (lines text), counted_shorter 1 (take (line - 1) (lines text)), six) in
    let there : lines_in (end_of (whole text)) (front ++ more) ≡ Err (line, refused.0) = ap (lines_in (end_of (whole text))) (sym (parted text (line - 1))) ∙ refused.1 in
    let taken = taken_front (end_of (whole text)) (end_of (whole cut)) line refused.0 front more (counted_below line 1 (take (line - 1) (lines text)) size) six there in
    (taken.0, taken.1, ap (lines_in (end_of (whole cut))) (cut_counted text cut line e) ∙ taken.2)

pub before_spelled : (text cut : List ℕ) (line : ℕ) (c : Config) (inputs : List Input) (numbers : List ℕ) → lines cut ≡ take (line - 1) (lines text)
    → SpellsScript cut c inputs numbers → SpellsLines (lines_before line text) c inputs numbers
before_spelled text cut line c inputs numbers e s = let P : List Line → Type 0 = λ ls. SpellsLines ls c inputs numbers in subst P (cut_counted text cut line e) s

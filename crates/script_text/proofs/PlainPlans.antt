-- A plain text of each valid plan: nothing in it is passed over.
use Rattle.std.proofs.Common.{◌≡◌, ℕ, ◌<◌, ◌≤◌, ◌^◌, ◌&&◌, true, nat_le, List, [], ◌∷◌, ◌++◌, length, map, decimal, codes, refl, sym, subst, arith}
use Rattle.std.specs.List.{AllByRecursion}
use Rattle.std.proofs.lemmas.Bool.Decides.{nat_tests}
use Rattle.msg_wire.specs.Valid.{IsPrintable, IsValidLine, IsValidPlan}
use Rattle.script_text.specs.Names.{Plan, PlanLine}
use Rattle.script_text.specs.Names.inputs
use Rattle.script_text.specs.Names.plan_lines
use Rattle.script_text.specs.Lines.{Line, counts}
use Rattle.script_text.specs.Words.{is_printable, words_of}
use Rattle.script_text.specs.Spelled.{plan_word}
use Rattle.script_text.specs.SpelledPlans.{SpellsNumbers, SpellsPlanLine}
use Rattle.script_text.specs.Plans.{SpellsPlanLines, SpellsPlan}
use Rattle.script_text.proofs.PlainWords.{IsPlainWord, sentence, words_of_sentence, printable_sentence, counts_sentence, plain_decimal, plain_decimals, spelled_decimals}
use Rattle.script_text.proofs.PlainTexts.{text_of, plain_numbered, counted_lines_text_of, all_append, IsLineOf, each_line}
use Rattle.script_text.proofs.PlainInputs.{submit_text, input_text, submit_printable, submit_spelled, number_line, input_line, drain_word}
use Rattle.script_text.proofs.PlainClusters.{head_rows, plain_head}

plan_first : IsPlainWord plan_word
plan_first = record { some = omega arith; letters = (refl, (refl, (refl, (refl, (refl, (refl, (refl, (refl, (refl, (refl, (refl, (refl, tt)))))))))))); printable = refl }

readers_word : IsPlainWord (codes "readers")
readers_word = record { some = omega arith; letters = (refl, (refl, (refl, (refl, (refl, (refl, (refl, tt))))))); printable = refl }

submitters_word : IsPlainWord (codes "submitters")
submitters_word = record { some = omega arith; letters = (refl, (refl, (refl, (refl, (refl, (refl, (refl, (refl, (refl, (refl, tt)))))))))); printable = refl }

faults_word : IsPlainWord (codes "faults")
faults_word = record { some = omega arith; letters = (refl, (refl, (refl, (refl, (refl, (refl, tt)))))); printable = refl }

episode_word : IsPlainWord (codes "episode")
episode_word = record { some = omega arith; letters = (refl, (refl, (refl, (refl, (refl, (refl, (refl, tt))))))); printable = refl }

-- ---- the rest of the head

abbrev pub numbers_text : List ℕ → List ℕ → List ℕ
numbers_text due numbers = sentence (due ∷ map decimal numbers)

numbers_line : (due numbers : List ℕ) → IsPlainWord due → counts due ≡ true → AllByRecursion (λ n. n < 10 ^ 18) numbers
    → IsLineOf (λ line. SpellsNumbers due (words_of line)) (numbers_text due numbers) numbers
numbers_line due numbers w c h =
    let plain : AllByRecursion IsPlainWord (due ∷ map decimal numbers) = (w, plain_decimals numbers h) in
    record {
      printable = printable_sentence (due ∷ map decimal numbers) plain;
      counted = counts_sentence due (map decimal numbers) c;
      spelled = (map decimal numbers, words_of_sentence (due ∷ map decimal numbers) plain, spelled_decimals numbers h);
    }

below_small : (limit : ℕ) (numbers : List ℕ) → limit ≤ 8 → AllByRecursion (λ n. n < limit) numbers → AllByRecursion (λ n. n < 10 ^ 18) numbers
below_small limit [] few h = tt
below_small limit (n ∷ numbers) few h = (omega (arith, h.0, few), below_small limit numbers few h.1)

abbrev faults_of : Plan → List ℕ
faults_of p = p.seed ∷ p.lose ∷ p.repeat ∷ p.late ∷ p.cut ∷ []

abbrev limits_of : Plan → List ℕ
limits_of p = p.limit ∷ p.settle ∷ []

abbrev pub rest_rows : Plan → List (List ℕ)
rest_rows p =
    numbers_text (codes "readers") p.readers ∷ numbers_text (codes "submitters") p.submitters ∷ numbers_text (codes "faults") (faults_of p)
    ∷ numbers_text (codes "drain") (limits_of p) ∷ []

module _ (p : Plan) (v : IsValidPlan p) where
  readers_line : IsLineOf (λ line. SpellsNumbers (codes "readers") (words_of line)) (numbers_text (codes "readers") p.readers) p.readers
  readers_line = numbers_line (codes "readers") p.readers readers_word refl (below_small p.cfg.consumers p.readers (omega (arith, v.cfg.most_consumers)) v.readers)

  submitters_line : IsLineOf (λ line. SpellsNumbers (codes "submitters") (words_of line)) (numbers_text (codes "submitters") p.submitters) p.submitters
  submitters_line = numbers_line (codes "submitters") p.submitters submitters_word refl (below_small (length p.cfg.homes) p.submitters (omega (arith, v.cfg.most_clients)) v.submitters)

  faults_line : p.seed < 2 ^ 32 → IsLineOf (λ line. SpellsNumbers (codes "faults") (words_of line)) (numbers_text (codes "faults") (faults_of p)) (faults_of p)
  faults_line seed = numbers_line (codes "faults") (faults_of p) faults_word refl (omega (arith, seed), (omega (arith, v.percent), (omega (arith, v.percent), (omega (arith, v.percent), (omega (arith, v.percent), tt)))))

  limits_line : IsLineOf (λ line. SpellsNumbers (codes "drain") (words_of line)) (numbers_text (codes "drain") (limits_of p)) (limits_of p)
  limits_line = numbers_line (codes "drain") (limits_of p) drain_word refl (omega (arith, v.limit), (omega (arith, v.settle), tt))

-- ---- the lines after the head

abbrev pub line_text : PlanLine → List ℕ
line_text (plan_lines.Submit by body) = submit_text by body
line_text (plan_lines.Episode turns) = sentence (codes "episode" ∷ decimal turns ∷ [])
line_text (plan_lines.Restart node) = input_text (inputs.Restart node)
line_text (plan_lines.Command node command) = input_text (inputs.Command node command)

body_printable : (body : List ℕ) → AllByRecursion IsPrintable body → is_printable body ≡ true
body_printable [] h = refl
body_printable (b ∷ bs) h =
    let here : (nat_le 0x20 b && nat_le b 0x7e) ≡ true = grind (arith, nat_tests, h.0.0, h.0.1) in rw (here, body_printable bs h.1) refl

plan_line : (p : Plan) → IsValidPlan p → (out : PlanLine) → IsValidLine p out → IsLineOf SpellsPlanLine (line_text out) out
plan_line p v (plan_lines.Submit by body) h =
    let small : by < 10 ^ 18 = omega (arith, h.0, v.most_submitters) in
    record { printable = submit_printable by body small (body_printable body h.2); counted = refl; spelled = submit_spelled by body small }
plan_line p v (plan_lines.Episode turns) h =
    let small : turns < 10 ^ 18 = omega (arith, h.1) in
    record {
      printable = printable_sentence (codes "episode" ∷ decimal turns ∷ []) (episode_word, (plain_decimal turns small, tt));
      counted = refl;
      spelled = number_line (codes "episode") turns episode_word small;
    }
plan_line p v (plan_lines.Restart node) h =
    let line = input_line p.cfg v.cfg (inputs.Restart node) h tt in record { printable = line.printable; counted = line.counted; spelled = line.spelled }
plan_line p v (plan_lines.Command node command) h =
    let line = input_line p.cfg v.cfg (inputs.Command node command) h tt in record { printable = line.printable; counted = line.counted; spelled = line.spelled }

each_plan_line : (p : Plan) → IsValidPlan p → (outs : List PlanLine) → AllByRecursion (IsValidLine p) outs
    → AllByRecursion (λ out. IsLineOf SpellsPlanLine (line_text out) out) outs
each_plan_line p v [] h = tt
each_plan_line p v (out ∷ outs) h = (plan_line p v out h.0, each_plan_line p v outs h.1)

-- ---- the plan

abbrev plan_rows : Plan → List (List ℕ)
plan_rows p = head_rows plan_word p.cfg ++ (rest_rows p ++ map line_text p.lines)

unfoldable pub plan_text : Plan → List ℕ
plan_text p = text_of (plan_rows p)

pub plain_plan : (p : Plan) → IsValidPlan p → p.seed < 2 ^ 32 → SpellsPlan (plan_text p) p
unfolding plan_text
plain_plan p v seed =
    let front = head_rows plan_word p.cfg in
    let lines = map line_text p.lines in
    let head = plain_head plan_word p.cfg plan_first refl v.cfg in
    let l1 = readers_line p v in
    let l2 = submitters_line p v in
    let l3 = faults_line p v seed in
    let l4 = limits_line p v in
    let tail = each_line SpellsPlanLine line_text 11 p.lines (each_plan_line p v p.lines v.lines) in
    let printable = all_append (λ line. is_printable line ≡ true) front (rest_rows p ++ lines) head.printable (l1.printable, (l2.printable, (l3.printable, (l4.printable, tail.printable)))) in
    let counted = all_append (λ line. counts line ≡ true) front (rest_rows p ++ lines) head.counted (l1.counted, (l2.counted, (l3.counted, (l4.counted, tail.counted)))) in
    let P : List Line → Type 0 = λ ls. SpellsPlanLines ls p in
    subst P (sym (counted_lines_text_of (plan_rows p) printable counted)) (record {
      printable = plain_numbered 1 (plan_rows p) printable;
      head = head.spelled;
      rest = (l1.spelled, l2.spelled, l3.spelled, l4.spelled, seed);
      lines_are = tail.spelled;
      valid = v;
    })

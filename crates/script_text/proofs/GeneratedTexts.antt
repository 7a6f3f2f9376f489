-- The text that is generated is the plain text of a plan, which is valid.
use Rattle.std.proofs.Common.{◌≡◌, ℕ, zero, suc, ◌+◌, ◌*◌, ◌%◌, ◌<◌, ◌≤◌, ◌^◌, List, ◌∷◌, ◌++◌, length, map, codes, decimal, refl, sym, ap, subst, ◌∙◌, inl, inr, arith, append_assoc, length-append}
use Rattle.std.specs.Fmt.{digits}
use Rattle.std.specs.List.{AllByRecursion}
use Rattle.std.proofs.lemmas.Fmt.{length-decimal-le}
use Rattle.rand_pcg.specs.Lcg.{Lcg}
use Rattle.msg_wire.specs.Valid.{IsValidConfig, IsValidLine, IsValidPlan, node_count, lines_entries}
use Rattle.script_text.specs.Names.{Plan, PlanLine}
use Rattle.script_text.specs.Names.plan_lines
use Rattle.script_text.specs.Spelled.{plan_word}
use Rattle.script_text.specs.Plans.{SpellsPlan}
use Rattle.script_text.specs.Generated.{seeded, number_of_word, after_word_of, submit_line, submit_lines, generated_head, generated_end, generated_plan, generated_cluster, submissions, generated_turns, generated}
use Rattle.script_text.proofs.PlainWords.{plain_decimal}
use Rattle.script_text.proofs.PlainTexts.{text_of, all_append}
use Rattle.script_text.proofs.PlainClusters.{head_rows}
use Rattle.script_text.proofs.PlainPlans.{rest_rows, line_text, plan_text, plain_plan}
use Rattle.script_text.proofs.PlainInputs.{submit_text}
use Rattle.script_text.proofs.PlanLines.{each_printable}
use Rattle.script_text.proofs.GeneratedLemmas.{head_front}

-- ---- the text

abbrev first_rows : Plan → List (List ℕ)
first_rows p = head_rows plan_word p.cfg ++ rest_rows p

head_is : (seed size : ℕ) (rows : List (List ℕ)) → text_of (first_rows (generated seed size) ++ rows) ≡ generated_head seed ++ text_of rows
unfolding generated_head digits
head_is seed size rows =
    ap (λ (t : List ℕ). head_front ++ t) (
    append_assoc (decimal seed) (codes " 5 2 2 0") (codes "\ndrain 120000 300\n" ++ text_of rows)
    ∙ sym (append_assoc (decimal seed) (codes " 5 2 2 0\ndrain 120000 300\n") (text_of rows))
    )

submit_is : (by number : ℕ) (rest : List ℕ) → submit_text by (decimal number) ++ 10 ∷ rest ≡ submit_line by number ++ rest
unfolding submit_line
submit_is by number rest =
    ap (λ (t : List ℕ). codes "submit " ++ t) (
    append_assoc (decimal by) (codes " " ++ decimal number) (codes "\n" ++ rest)
    ∙ sym (
    append_assoc (decimal by ++ codes " " ++ decimal number) (codes "\n") rest
    ∙ (append_assoc (decimal by ++ codes " ") (decimal number) (codes "\n" ++ rest)
    ∙ append_assoc (decimal by) (codes " ") (decimal number ++ (codes "\n" ++ rest)))
    )
    )

submissions_are : (k count : ℕ) (g : Lcg) (turns : List PlanLine)
    → text_of (map line_text (submissions k count g ++ turns)) ≡ submit_lines k count g ++ text_of (map line_text turns)
submissions_are k zero g turns = refl
submissions_are k (suc count) g turns =
    let more : List ℕ = submit_lines (k + 1) count (after_word_of g) in
    ap (λ (t : List ℕ). submit_text (k % 4) (decimal (number_of_word g)) ++ 10 ∷ t) (submissions_are (k + 1) count (after_word_of g) turns)
    ∙ (submit_is (k % 4) (number_of_word g) (more ++ text_of (map line_text turns))
    ∙ sym (append_assoc (submit_line (k % 4) (number_of_word g)) more (text_of (map line_text turns))))

turns_are : text_of (map line_text generated_turns) ≡ generated_end
unfolding generated_end digits
turns_are = refl

text_is : (seed size : ℕ) → plan_text (generated seed size) ≡ generated_plan seed size
unfolding plan_text generated_plan
text_is seed size =
    let lines : List ℕ = submit_lines 0 (4 * size) (seeded seed) in
    head_is seed size (map line_text (submissions 0 (4 * size) (seeded seed) ++ generated_turns))
    ∙ (ap (λ (t : List ℕ). generated_head seed ++ t) (submissions_are 0 (4 * size) (seeded seed) generated_turns ∙ ap (λ (t : List ℕ). lines ++ t) turns_are)
    ∙ sym (append_assoc (generated_head seed) lines generated_end))

-- ---- the plan is valid

cluster_valid : IsValidConfig generated_cluster
cluster_valid = record {
  seqs = inr (inl refl);
  some_shard = omega arith;
  most_shards = omega arith;
  rounds = (omega arith, omega arith);
  rows = record {
    table = record { some = omega arith; few = omega arith; within = refl; distinct = refl };
    have_nodes = (omega arith, (omega arith, (omega arith, tt)));
  };
  some_client = omega arith;
  most_clients = omega arith;
  homes = (refl, (refl, (refl, (refl, tt))));
  some_consumer = omega arith;
  most_consumers = omega arith;
}

number_few : (g : Lcg) → number_of_word g < 1000
number_few g = omega arith

submission_valid : (p : Plan) (k : ℕ) (g : Lcg) → length p.submitters ≡ 4 → IsValidLine p (plan_lines.Submit (k % 4) (decimal (number_of_word g)))
submission_valid p k g four =
    let number = number_of_word g in
    let few : number < 1000 = number_few g in
    let digits : length (decimal number) ≤ 3 = length-decimal-le 3 number (omega arith) few (omega (arith, few)) in
    (omega (arith, four), omega (arith, digits), each_printable (decimal number) (plain_decimal number (omega (arith, few))).printable)

submissions_valid : (p : Plan) (k count : ℕ) (g : Lcg) → length p.submitters ≡ 4 → AllByRecursion (IsValidLine p) (submissions k count g)
submissions_valid p k zero g four = tt
submissions_valid p k (suc count) g four = (submission_valid p k g four, submissions_valid p (k + 1) count (after_word_of g) four)

turns_valid : (seed size : ℕ) → AllByRecursion (IsValidLine (generated seed size)) generated_turns
turns_valid seed size = (
  (omega arith, omega arith),
  (omega arith, ((omega arith, omega arith), ((omega arith, omega arith), ((omega arith, omega arith), (omega arith, ((omega arith, omega arith), tt)))))),
)

-- bodies bring no entries
submissions_bring : (nodes k count : ℕ) (g : Lcg) (turns : List PlanLine) → lines_entries nodes (submissions k count g ++ turns) ≡ lines_entries nodes turns
submissions_bring nodes k zero g turns = refl
submissions_bring nodes k (suc count) g turns = omega (arith, submissions_bring nodes (k + 1) count (after_word_of g) turns)

generated_valid : (seed size : ℕ) → IsValidPlan (generated seed size)
generated_valid seed size =
    let p : Plan = generated seed size in
    record {
      cfg = cluster_valid;
      most_readers = omega arith;
      readers = (omega arith, (omega arith, (omega arith, (omega arith, tt))));
      most_submitters = omega arith;
      submitters = (omega arith, (omega arith, (omega arith, (omega arith, tt))));
      percent = omega arith;
      limit = omega arith;
      settle = omega arith;
      lines = all_append (IsValidLine p) (submissions 0 (4 * size) (seeded seed)) generated_turns (submissions_valid p 0 (4 * size) (seeded seed) refl) (turns_valid seed size);
      entries = omega (arith, submissions_bring (node_count generated_cluster) 0 (4 * size) (seeded seed) generated_turns);
    }

pub generated_spelled : (seed size : ℕ) → seed < 2 ^ 32 → SpellsPlan (generated_plan seed size) (generated seed size)
generated_spelled seed size h =
    subst (λ (text : List ℕ). SpellsPlan text (generated seed size)) (text_is seed size) (plain_plan (generated seed size) (generated_valid seed size) h)

-- ---- its length

line_short : (k : ℕ) (g : Lcg) → length (submit_line (k % 4) (number_of_word g)) ≤ 13
unfolding submit_line
line_short k g =
    let by = k % 4 in
    let number = number_of_word g in
    let few : number < 1000 = number_few g in
    let one : length (decimal by) ≤ 1 = length-decimal-le 1 by (omega arith) (omega arith) (omega arith) in
    let three : length (decimal number) ≤ 3 = length-decimal-le 3 number (omega arith) few (omega (arith, few)) in
    let end = length-append (decimal by ++ codes " " ++ decimal number) (codes "\n") in
    let last = length-append (decimal by ++ codes " ") (decimal number) in
    let space = length-append (decimal by) (codes " ") in
    omega (arith, one, three, end, last, space)

lines_short : (k count : ℕ) (g : Lcg) → length (submit_lines k count g) ≤ 13 * count
lines_short k zero g = omega arith
lines_short k (suc count) g =
    omega (arith, length-append (submit_line (k % 4) (number_of_word g)) (submit_lines (k + 1) count (after_word_of g)), line_short k g, lines_short (k + 1) count (after_word_of g))

head_short : (seed : ℕ) → seed < 2 ^ 32 → length (generated_head seed) ≤ 200
unfolding generated_head
head_short seed h =
    let back : List ℕ = codes " 5 2 2 0\ndrain 120000 300\n" in
    omega (arith, length-decimal-le 10 seed (omega arith) (omega (arith, h)) (omega (arith, h)), length-append (decimal seed) back)

end_short : length generated_end ≤ 100
unfolding generated_end
end_short = omega arith

pub generated_short : (seed size : ℕ) → seed < 2 ^ 32 → size ≤ 2000 → length (generated_plan seed size) ≤ 16777216
unfolding generated_plan
generated_short seed size h few =
    let lines : List ℕ = submit_lines 0 (4 * size) (seeded seed) in
    omega (arith, length-append (generated_head seed ++ lines) generated_end, length-append (generated_head seed) lines, head_short seed h, lines_short 0 (4 * size) (seeded seed), end_short, few)

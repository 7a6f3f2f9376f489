-- What whole plans spell, and what is judged of them.
use Rattle.std.proofs.Common.{◌≡◌, ℕ, zero, suc, ◌+◌, ◌≤◌, false, nat_lt, List, [], ◌∷◌, length, map, take, drop, codes, Result, Ok, Err, IfOk, refl, sym, ap, subst, ◌∙◌, inl, inr, arith}
use Rattle.std.specs.List.{AllByRecursion, AllZip}
use Rattle.std.proofs.lemmas.Bool.Decides.{nat_tests}
use Rattle.record_codec.specs.Reading.{◌>>=◌}
use Rattle.record_codec.proofs.Reading.{bind_ok, chosen, ok_is}
use Rattle.msg_wire.specs.Valid.{IsValidConfig, IsValidLine, IsValidPlan, node_count, line_entries, lines_entries}
use Rattle.script_text.specs.Names.{Config, Plan, PlanLine, ScriptKind, ScriptError}
use Rattle.script_text.specs.Names.plan_lines
use Rattle.script_text.specs.Names.script_errors
use Rattle.script_text.specs.declared.plan_head.Faults.{Faults}
use Rattle.script_text.specs.Lines.{Line, counted_lines, whole, end_of}
use Rattle.script_text.specs.Words.{words_of}
use Rattle.script_text.specs.Spelled.{plan_word, SpellsHead}
use Rattle.script_text.specs.SpelledPlans.{SpellsRest, SpellsPlanLine}
use Rattle.script_text.specs.Plans.{SpellsPlanLines, SpellsPlan}
use Rattle.script_text.specs.Reading.{Refusal, on_line, due_line, head_in}
use Rattle.script_text.specs.JudgedPlans.{readers_in, submitters_in, faults_in, limits_in, plan_line_in}
use Rattle.script_text.specs.ReadingPlans.{by_grammar, headed, plan_head_in, within_limit, plan_lines_in, whole_plan_in, plan_in, Answers, ReadsPlan}
use Rattle.script_text.specs.Answers.{Gives}
use Rattle.script_text.proofs.HeadLemmas.{IsPlain, due_line_ok, head_in_ok, head_in_back}
use Rattle.script_text.proofs.ScriptLemmas.{plain_joined, plain_front, plain_rest}
use Rattle.script_text.proofs.PlanHeads.{AreBelow, few_line_ok, readers_in_back, submitters_in_back, faults_in_ok, faults_in_back, limits_in_ok, limits_in_back}
use Rattle.script_text.proofs.PlanLines.{plan_line_in_ok, plan_line_in_back}

abbrev pub with_lines : Plan → List PlanLine → Plan
with_lines p outs = record p { lines = outs }

abbrev words : List Line → List (List (List ℕ))
words = map (λ (l : Line). words_of l.bytes)

-- ---- the rest of the head

-- a plan without lines that is valid, but for its cluster
pub record IsValidHead (p : Plan) : Type 0 where
  pub most_readers : length p.readers ≤ 8
  pub readers : AreBelow p.cfg.consumers p.readers
  pub most_submitters : length p.submitters ≤ 8
  pub submitters : AreBelow (length p.cfg.homes) p.submitters
  pub percent : p.lose + p.repeat + p.late + p.cut ≤ 100
  pub limit : p.limit ≤ 200000
  pub settle : p.settle ≤ 10000
  pub none : p.lines ≡ []

-- lines that begin with the rest of a head, and what is left of them
pub record HasRest (lines : List Line) (p : Plan) (rest : List Line) : Type 0 where
  pub rest_is : rest ≡ drop 4 lines
  pub plain : AllByRecursion IsPlain (take 4 lines)
  pub more : (outs : List PlanLine) → SpellsRest (words (take 4 lines)) (with_lines p outs)
  pub valid : IsValidHead p

abbrev from_limits : ℕ → Config → List ℕ → List ℕ → Faults → List Line → Result (Plan × List Line) Refusal
from_limits end c readers submitters f lines = due_line end limits_in lines >>= λ x. Ok (headed c readers submitters f x.0, x.1)

abbrev from_faults : ℕ → Config → List ℕ → List ℕ → List Line → Result (Plan × List Line) Refusal
from_faults end c readers submitters lines = due_line end faults_in lines >>= λ x. from_limits end c readers submitters x.0 x.1

abbrev from_submitters : ℕ → Config → List ℕ → List Line → Result (Plan × List Line) Refusal
from_submitters end c readers lines = due_line end (submitters_in (length c.homes)) lines >>= λ x. from_faults end c readers x.0 x.1

abbrev from_readers : ℕ → Config → List Line → Result (Plan × List Line) Refusal
from_readers end c lines = due_line end (readers_in c.consumers) lines >>= λ x. from_submitters end c x.0 x.1

four_lines : (c : Config) (l1 l2 l3 l4 : Line) (rest : List Line) (readers submitters : List ℕ) (f : Faults) (limits : ℕ × ℕ)
    → readers_in c.consumers l1.bytes ≡ Ok readers → submitters_in (length c.homes) l2.bytes ≡ Ok submitters → faults_in l3.bytes ≡ Ok f
    → limits_in l4.bytes ≡ Ok limits → HasRest (l1 ∷ l2 ∷ l3 ∷ l4 ∷ rest) (headed c readers submitters f limits) rest
unfolding readers_in submitters_in
four_lines c l1 l2 l3 l4 rest readers submitters f limits e1 e2 e3 e4 =
    let h1 = few_line_ok (codes "readers") c.consumers l1.bytes readers e1 in
    let h2 = few_line_ok (codes "submitters") (length c.homes) l2.bytes submitters e2 in
    let h3 = faults_in_ok l3.bytes f e3 in
    let h4 = limits_in_ok l4.bytes limits e4 in
    record {
      rest_is = refl;
      plain = (h1.0, (h2.0, (h3.0, (h4.0, tt))));
      more = λ outs. (h1.1, h2.1, h3.1, h4.1, h3.2);
      valid = record {
        most_readers = h1.3;
        readers = h1.2;
        most_submitters = h2.3;
        submitters = h2.2;
        percent = h3.3;
        limit = h4.2;
        settle = h4.3;
        none = refl;
      };
    }

rest_ok : (end : ℕ) (c : Config) (lines : List Line) (p : Plan × List Line) → from_readers end c lines ≡ Ok p → (p.0.cfg ≡ c) × HasRest lines p.0 p.1
rest_ok end c lines p e =
    let b1 = bind_ok (due_line end (readers_in c.consumers) lines) (λ x. from_submitters end c x.0 x.1) p e in
    let b2 = bind_ok (due_line end (submitters_in (length c.homes)) b1.0.1) (λ x. from_faults end c b1.0.0 x.0 x.1) p b1.2 in
    let b3 = bind_ok (due_line end faults_in b2.0.1) (λ x. from_limits end c b1.0.0 b2.0.0 x.0 x.1) p b2.2 in
    let b4 = bind_ok (due_line end limits_in b3.0.1) (λ x. Ok (headed c b1.0.0 b2.0.0 b3.0.0 x.0, x.1)) p b3.2 in
    let l1 = due_line_ok end (readers_in c.consumers) lines b1.0 b1.1 in
    let l2 = due_line_ok end (submitters_in (length c.homes)) b1.0.1 b2.0 b2.1 in
    let l3 = due_line_ok end faults_in b2.0.1 b3.0 b3.1 in
    let l4 = due_line_ok end limits_in b3.0.1 b4.0 b4.1 in
    let lines_are : lines ≡ l1.0 ∷ l2.0 ∷ l3.0 ∷ l4.0 ∷ b4.0.1 = l1.1 ∙ ap (λ (t : List Line). l1.0 ∷ t) (l2.1 ∙ ap (λ (t : List Line). l2.0 ∷ t) (l3.1 ∙ ap (λ (t : List Line). l3.0 ∷ t) l4.1)) in
    let head : Plan = headed c b1.0.0 b2.0.0 b3.0.0 b4.0.0 in
    let facts : HasRest (l1.0 ∷ l2.0 ∷ l3.0 ∷ l4.0 ∷ b4.0.1) head b4.0.1 = four_lines c l1.0 l2.0 l3.0 l4.0 b4.0.1 b1.0.0 b2.0.0 b3.0.0 b4.0.0 l1.2 l2.2 l3.2 l4.2 in
    let P : List Line → Type 0 = λ t. HasRest t head b4.0.1 in
    let Q : Plan × List Line → Type 0 = λ q. (q.0.cfg ≡ c) × HasRest lines q.0 q.1 in
    subst Q (ok_is Refusal (head, b4.0.1) p b4.2) (refl, subst P (sym lines_are) facts)

rest_back : (end : ℕ) (lines : List Line) (p : Plan) → AllByRecursion IsPlain (take 4 lines) → SpellsRest (words (take 4 lines)) p → IsValidPlan p
    → from_readers end p.cfg lines ≡ Ok (with_lines p [], drop 4 lines)
rest_back end [] p plain s v = absurd s
rest_back end (l1 ∷ []) p plain s v = absurd s
rest_back end (l1 ∷ l2 ∷ []) p plain s v = absurd s
rest_back end (l1 ∷ l2 ∷ l3 ∷ []) p plain s v = absurd s
rest_back end (l1 ∷ l2 ∷ l3 ∷ l4 ∷ rest) p plain s v =
    let f : Faults = record { seed = p.seed; lose = p.lose; repeat = p.repeat; late = p.late; cut = p.cut } in
    rw (
      readers_in_back p.cfg.consumers l1.bytes p.readers plain.0 s.0 v.readers v.most_readers,
      submitters_in_back (length p.cfg.homes) l2.bytes p.submitters plain.1.0 s.1 v.submitters v.most_submitters,
      faults_in_back l3.bytes f plain.1.1.0 s.2 s.4 v.percent,
      limits_in_back l4.bytes p.limit p.settle plain.1.1.1.0 s.3 v.limit v.settle,
    ) refl

-- ---- the lines

-- lines of which each spells a line of the plan, with so many entries before them
record SpellsOuts (p : Plan) (entries : ℕ) (lines : List Line) (outs : List PlanLine) : Type 0 where
  plain : AllByRecursion IsPlain lines
  spelled : AllZip (λ (l : Line). SpellsPlanLine l.bytes) lines outs
  valid : AllByRecursion (IsValidLine p) outs
  within : entries ≤ 200000 → entries + lines_entries (node_count p.cfg) outs ≤ 200000

by_grammar_ok : {A : Type 0} (r : Result A Refusal) (x : A) → by_grammar r ≡ Ok x → r ≡ Ok x
by_grammar_ok (Ok y) x e = ap Ok (ok_is ScriptError y x e)
by_grammar_ok (Err refusal) x e = absurd cc

line_ok : {A : Type 0} (number : ℕ) (j : Result A ScriptKind) (x : A) → on_line number j ≡ Ok x → j ≡ Ok x
line_ok number (Ok y) x e = ap Ok (ok_is Refusal y x e)
line_ok number (Err kind) x e = absurd cc

within_ok : (number entries more : ℕ) → within_limit number entries ≡ Ok more → (more ≡ entries) × (entries ≤ 200000)
within_ok number entries more e =
    elim (chosen (nat_lt 200000 entries) (Err (script_errors.TooLong number)) (Ok entries) (Ok more) e) [
      | inl h ↦ absurd (let bad = h.1 in cc)
      | inr h ↦ (sym (ok_is ScriptError entries more h.1), grind (arith, nat_tests, h.0))
    ]

outs_ok : (p : Plan) (entries : ℕ) (lines : List Line) (outs : List PlanLine) → plan_lines_in p entries lines ≡ Ok outs → SpellsOuts p entries lines outs
outs_ok p entries [] outs e =
    subst (SpellsOuts p entries []) (ok_is ScriptError [] outs e) (record { plain = tt; spelled = tt; valid = tt; within = λ few. omega (arith, few) })
outs_ok p entries (l ∷ lines) outs e =
    let a = bind_ok (by_grammar (on_line l.number (plan_line_in p l.bytes))) (λ line. within_limit l.number (entries + line_entries (node_count p.cfg) line) >>= λ more. plan_lines_in p more lines >>= λ others. Ok (line ∷ others)) outs e in
    let b = bind_ok (within_limit l.number (entries + line_entries (node_count p.cfg) a.0)) (λ more. plan_lines_in p more lines >>= λ others. Ok (a.0 ∷ others)) outs a.2 in
    let d = bind_ok (plan_lines_in p b.0 lines) (λ others. Ok (a.0 ∷ others)) outs b.2 in
    let here = plan_line_in_ok p l.bytes a.0 (line_ok l.number (plan_line_in p l.bytes) a.0 (by_grammar_ok (on_line l.number (plan_line_in p l.bytes)) a.0 a.1)) in
    let room = within_ok l.number (entries + line_entries (node_count p.cfg) a.0) b.0 b.1 in
    let rest = outs_ok p b.0 lines d.0 d.1 in
    subst (SpellsOuts p entries (l ∷ lines)) (ok_is ScriptError (a.0 ∷ d.0) outs d.2) (record {
      plain = (here.0, rest.plain);
      spelled = (here.1, rest.spelled);
      valid = (here.2, rest.valid);
      within = λ few. omega (arith, room.0, rest.within (omega (arith, room.0, room.1)));
    })

outs_back : (p : Plan) (entries : ℕ) (lines : List Line) (outs : List PlanLine) → AllByRecursion IsPlain lines
    → AllZip (λ (l : Line). SpellsPlanLine l.bytes) lines outs → AllByRecursion (IsValidLine p) outs → entries + lines_entries (node_count p.cfg) outs ≤ 200000
    → plan_lines_in p entries lines ≡ Ok outs
outs_back p entries [] [] plain z v few = refl
outs_back p entries [] (x ∷ outs) plain z v few = absurd z
outs_back p entries (l ∷ lines) [] plain z v few = absurd z
outs_back p entries (l ∷ lines) (x ∷ outs) plain z v few =
    let fits : nat_lt 200000 (entries + line_entries (node_count p.cfg) x) ≡ false = grind (arith, nat_tests, few) in
    let rest = outs_back p (entries + line_entries (node_count p.cfg) x) lines outs plain.1 z.1 v.1 (omega (arith, few)) in
    rw (plan_line_in_back p l.bytes x plain.0 z.0 v.0, fits, rest) refl

-- a line is valid by the head alone
valid_line : (p : Plan) (outs : List PlanLine) (x : PlanLine) → IsValidLine p x → IsValidLine (with_lines p outs) x
valid_line p outs (plan_lines.Submit by body) v = v
valid_line p outs (plan_lines.Episode turns) v = v
valid_line p outs (plan_lines.Restart node) v = v
valid_line p outs (plan_lines.Command node command) v = v

valid_lines : (p : Plan) (outs xs : List PlanLine) → AllByRecursion (IsValidLine p) xs → AllByRecursion (IsValidLine (with_lines p outs)) xs
valid_lines p outs [] v = tt
valid_lines p outs (x ∷ xs) v = (valid_line p outs x v.0, valid_lines p outs xs v.1)

-- ---- all lines

abbrev no_lines : List Line
no_lines = []

drop_none : (k : ℕ) → drop k no_lines ≡ no_lines
drop_none zero = refl
drop_none (suc k) = refl

drop_more : (n m : ℕ) (lines : List Line) → drop m (drop n lines) ≡ drop (n + m) lines
drop_more zero m lines = ap (λ k. drop k lines) (omega arith)
drop_more (suc n) m [] = drop_none m ∙ sym (drop_none (suc n + m))
drop_more (suc n) m (l ∷ lines) =
    let at : suc (n + m) ≡ suc n + m = omega arith in
    drop_more n m lines ∙ ap (λ k. drop k (l ∷ lines)) at

whole_ok : (end : ℕ) (lines : List Line) (p : Plan) → whole_plan_in end lines ≡ Ok p → SpellsPlanLines lines p
unfolding whole_plan_in plan_head_in
whole_ok end lines p e =
    let a = bind_ok (by_grammar (plan_head_in end lines)) (λ head. plan_lines_in head.0 head.0.limit head.1 >>= λ others. Ok (with_lines head.0 others)) p e in
    let b = bind_ok (plan_lines_in a.0.0 a.0.0.limit a.0.1) (λ others. Ok (with_lines a.0.0 others)) p a.2 in
    let headed_is : plan_head_in end lines ≡ Ok a.0 = by_grammar_ok (plan_head_in end lines) a.0 a.1 in
    let h = bind_ok (head_in plan_word end lines) (λ head. from_readers end head.0 head.1) a.0 headed_is in
    let head = head_in_ok plan_word end lines h.0 h.1 in
    let more = rest_ok end h.0.0 h.0.1 a.0 h.2 in
    let tail : HasRest (drop 6 lines) a.0.0 a.0.1 = subst (λ (t : List Line). HasRest t a.0.0 a.0.1) head.rest_is more.1 in
    let left : a.0.1 ≡ drop 10 lines = tail.rest_is ∙ drop_more 6 4 lines in
    let outs : SpellsOuts a.0.0 a.0.0.limit (drop 10 lines) b.0 = subst (λ (t : List Line). SpellsOuts a.0.0 a.0.0.limit t b.0) left (outs_ok a.0.0 a.0.0.limit a.0.1 b.0 b.1) in
    let after : AllByRecursion IsPlain (drop 4 (drop 6 lines)) = subst (AllByRecursion IsPlain) (sym (drop_more 6 4 lines)) outs.plain in
    let c_is : h.0.0 ≡ a.0.0.cfg = sym more.0 in
    subst (SpellsPlanLines lines) (ok_is ScriptError (with_lines a.0.0 b.0) p b.2) (record {
      printable = plain_joined 6 lines head.plain (plain_joined 4 (drop 6 lines) tail.plain after);
      head = subst (λ (c : Config). SpellsHead plan_word (words (take 6 lines)) c) c_is head.head;
      rest = tail.more b.0;
      lines_are = outs.spelled;
      valid = record {
        cfg = subst IsValidConfig c_is head.valid;
        most_readers = tail.valid.most_readers;
        readers = tail.valid.readers;
        most_submitters = tail.valid.most_submitters;
        submitters = tail.valid.submitters;
        percent = tail.valid.percent;
        limit = tail.valid.limit;
        settle = tail.valid.settle;
        lines = valid_lines a.0.0 b.0 b.0 outs.valid;
        entries = outs.within tail.valid.limit;
      };
    })

whole_back : (end : ℕ) (lines : List Line) (p : Plan) → SpellsPlanLines lines p → whole_plan_in end lines ≡ Ok p
unfolding whole_plan_in plan_head_in
whole_back end lines p s =
    let plain = plain_rest 6 lines s.printable in
    let left : drop 4 (drop 6 lines) ≡ drop 10 lines = drop_more 6 4 lines in
    let outs = outs_back (with_lines p []) p.limit (drop 10 lines) p.lines (subst (AllByRecursion IsPlain) left (plain_rest 4 (drop 6 lines) plain)) s.lines_are (valid_lines p [] p.lines s.valid.lines) s.valid.entries in
    rw (
      head_in_back plan_word end lines p.cfg (plain_front 6 lines s.printable) s.head s.valid.cfg,
      rest_back end (drop 6 lines) p (plain_front 4 (drop 6 lines) plain) s.rest s.valid,
      left,
      outs,
    ) refl

-- ---- texts

pub plan_found : (text : List ℕ) (r : Result Plan ScriptError) → Answers (λ (p : Plan). p) r (plan_in text) → IfOk r (λ p. SpellsPlan text p)
plan_found text (Ok p) g = whole_ok (end_of (whole text)) (counted_lines text) p g
plan_found text (Err e) g = tt

only_memory : (p : Plan) (e : ScriptError) (reading : Result Plan ScriptError) → reading ≡ Ok p → Answers (λ (q : Plan). q) (Err e) reading
    → e ≡ script_errors.OutOfMemory
only_memory p (script_errors.At line kind) reading ok bad = absurd cc
only_memory p (script_errors.TooLong line) reading ok bad = absurd cc
only_memory p script_errors.OutOfMemory reading ok bad = refl

pub plan_only : (text : List ℕ) (r : Result Plan ScriptError) → Answers (λ (q : Plan). q) r (plan_in text) → (p : Plan) → SpellsPlan text p → ReadsPlan p r
plan_only text (Ok q) g p s = ok_is ScriptError q p (sym g ∙ whole_back (end_of (whole text)) (counted_lines text) p s)
plan_only text (Err e) g p s = only_memory p e (plan_in text) (whole_back (end_of (whole text)) (counted_lines text) p s) g

-- ---- the head

abbrev IsHead : (Plan → Type 0) → Type 0
IsHead P = (end : ℕ) (lines rest : List Line) (r : Result Plan ScriptError) → Gives (λ (p : Plan). (p, rest)) r (plan_head_in end lines) → IfOk r P

head_facts : (end : ℕ) (lines rest : List Line) (p : Plan) → plan_head_in end lines ≡ Ok (p, rest) → IsValidConfig p.cfg × IsValidHead p
unfolding plan_head_in
head_facts end lines rest p e =
    let h = bind_ok (head_in plan_word end lines) (λ head. from_readers end head.0 head.1) (p, rest) e in
    let head = head_in_ok plan_word end lines h.0 h.1 in
    let more = rest_ok end h.0.0 h.0.1 (p, rest) h.2 in
    (subst IsValidConfig (sym more.0) head.valid, more.1.valid)

pub head_config : IsHead (λ p. IsValidConfig p.cfg)
head_config end lines rest (Ok p) g = (head_facts end lines rest p g).0
head_config end lines rest (Err e) g = tt

pub head_few : IsHead (λ p. length p.submitters ≤ 8)
head_few end lines rest (Ok p) g = (head_facts end lines rest p g).1.most_submitters
head_few end lines rest (Err e) g = tt

pub head_limit : IsHead (λ p. p.limit ≤ 200000)
head_limit end lines rest (Ok p) g = (head_facts end lines rest p g).1.limit
head_limit end lines rest (Err e) g = tt

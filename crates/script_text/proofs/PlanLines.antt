-- Lines of plans: what is judged is what the line spells, both ways.
use Rattle.std.proofs.Common.{◌≡◌, ℕ, ◌≤◌, ◌&&◌, true, cond, not, nat_le, IsTrue, List, [], ◌∷◌, ◌++◌, length, Ok, Err, codes, refl, ap, sym, subst, ◌∙◌, inl, inr, arith}
use Rattle.std.specs.List.{AllByRecursion}
use Rattle.std.proofs.lemmas.Bool.Decides.{nat_tests}
use Rattle.spec_base.specs.Spelling.{node_name}
use Rattle.record_codec.specs.Reading.{◌>>=◌}
use Rattle.record_codec.proofs.Reading.{bind_ok, chosen, ok_is}
use Rattle.msg_wire.specs.Valid.{IsPrintable, IsValidLine}
use Rattle.script_text.specs.Names.{NodeId, Command, Plan, PlanLine, ScriptKind}
use Rattle.script_text.specs.Names.plan_lines
use Rattle.script_text.specs.Names.commands
use Rattle.script_text.specs.Names.kinds
use Rattle.script_text.specs.Words.{is_printable, words_of, is_word, SpellsDecimal}
use Rattle.script_text.specs.Spelled.{SpellsSubmit}
use Rattle.script_text.specs.SpelledPlans.{SpellsPlanLine}
use Rattle.script_text.specs.Judged.{Judged, from_to, number_where, only_of, of_both, submit_of, of_node, table_of, remove_of, body_of}
use Rattle.script_text.specs.JudgedPlans.{episode_of, plan_form_of, plan_line_in}
use Rattle.script_text.proofs.NumberLemmas.{only_of_ok, number_where_ok, number_where_back, from_to_is, from_to_true}
use Rattle.script_text.proofs.RowLemmas.{and_left, and_right}
use Rattle.script_text.proofs.SubmitLemmas.{submission_back}
use Rattle.script_text.proofs.InputSpelled.{Begins, begins, IsTold, of_both_ok, submit_of_ok, of_node_ok, table_of_ok, remove_of_ok, submit_back, node_back, table_back, remove_back}

-- what a line says is a line of the plan
abbrev Holds : Plan → List ℕ → PlanLine → Type 0
Holds p line out = SpellsPlanLine line out × IsValidLine p out

-- ---- a body of a printable line is printable

suffix : (xs ys : List ℕ) → is_printable (xs ++ ys) ≡ true → is_printable ys ≡ true
suffix [] ys e = e
suffix (x ∷ xs) ys e = suffix xs ys (and_right (nat_le 0x20 x && nat_le x 0x7e) (is_printable (xs ++ ys)) e)

pub each_printable : (bytes : List ℕ) → is_printable bytes ≡ true → AllByRecursion IsPrintable bytes
each_printable [] e = tt
each_printable (b ∷ bs) e =
    let here : (nat_le 0x20 b && nat_le b 0x7e) ≡ true = and_left (nat_le 0x20 b && nat_le b 0x7e) (is_printable bs) e in
    ((grind (arith, nat_tests, here), grind (arith, nat_tests, here)), each_printable bs (and_right (nat_le 0x20 b && nat_le b 0x7e) (is_printable bs) e))

printable_body : (line : List ℕ) (number : ℕ) (body : List ℕ) → is_printable line ≡ true → SpellsSubmit line number body → is_printable body ≡ true
printable_body line number body plain s =
    let whole : is_printable (s.before ++ (codes "submit" ++ (s.between ++ (s.word ++ s.rest)))) ≡ true = ap is_printable (sym s.line_is) ∙ plain in
    let rest : is_printable s.rest ≡ true = suffix s.word s.rest (suffix s.between (s.word ++ s.rest) (suffix (codes "submit") (s.between ++ (s.word ++ s.rest)) (suffix s.before (codes "submit" ++ (s.between ++ (s.word ++ s.rest))) whole))) in
    elim s.body_is [
      | inl e ↦ suffix (32 ∷ []) body (ap is_printable (sym e) ∙ rest)
      | inr e ↦ ap is_printable e.1
    ]

-- ---- each form

submitted : (p : Plan) (line : List ℕ) (words : List (List ℕ)) (out : PlanLine) → is_printable line ≡ true → Begins line (codes "submit") words
    → of_both plan_lines.Submit (submit_of (length p.submitters) (body_of line) words) ≡ Ok out → Holds p line out
submitted p line words out plain b e =
    let m = of_both_ok plan_lines.Submit (submit_of (length p.submitters) (body_of line) words) out e in
    let s = submit_of_ok (length p.submitters) line words m.0 b m.1 in
    subst (Holds p line) m.2 (s.0, (s.1, s.2, each_printable m.0.1 (printable_body line m.0.0 m.0.1 plain s.0)))

episode_ok : (p : Plan) (line : List ℕ) (words : List (List ℕ)) (out : PlanLine) → Begins line (codes "episode") words → episode_of words ≡ Ok out
    → Holds p line out
unfolding episode_of
episode_ok p line words out b e =
    let w = bind_ok (only_of words) (λ word. number_where (from_to 1 2000) word >>= λ turns. Ok (plan_lines.Episode turns)) out e in
    let n = bind_ok (number_where (from_to 1 2000) w.0) (λ turns. Ok (plan_lines.Episode turns)) out w.2 in
    let s = number_where_ok (from_to 1 2000) w.0 n.0 n.1 in
    let words_are : words_of line ≡ codes "episode" ∷ w.0 ∷ [] = b ∙ ap (λ (ws : List (List ℕ)). codes "episode" ∷ ws) (only_of_ok words w.0 w.1) in
    subst (Holds p line) (ok_is ScriptKind (plan_lines.Episode n.0) out n.2) ((w.0, words_are, s.0), from_to_is 1 2000 n.0 s.1)

restarted : (p : Plan) (line : List ℕ) (words : List (List ℕ)) (out : PlanLine) → Begins line (codes "restart") words
    → of_node plan_lines.Restart p.cfg words ≡ Ok out → Holds p line out
restarted p line words out b e =
    let n = of_node_ok p.cfg plan_lines.Restart words out e in
    subst (Holds p line) n.3 (b ∙ ap (λ (ws : List (List ℕ)). codes "restart" ∷ ws) n.1, n.2)

commanded : (p : Plan) (line : List ℕ) (j : Judged (NodeId × Command)) (out : PlanLine) → ((told : NodeId × Command) → j ≡ Ok told → IsTold p.cfg line told)
    → of_both plan_lines.Command j ≡ Ok out → Holds p line out
commanded p line j out h e =
    let m = of_both_ok plan_lines.Command j out e in
    let s = h m.0 m.1 in
    subst (Holds p line) m.2 (s.0, (s.1, s.2))

-- ---- by the first word

abbrev from_fifth : Plan → List ℕ → List (List ℕ) → Judged PlanLine
from_fifth p word words = cond (is_word (codes "remove") word) (of_both plan_lines.Command (remove_of p.cfg words)) (Err kinds.Word)

abbrev from_fourth : Plan → List ℕ → List (List ℕ) → Judged PlanLine
from_fourth p word words = cond (is_word (codes "table") word) (of_both plan_lines.Command (table_of p.cfg words)) (from_fifth p word words)

abbrev from_third : Plan → List ℕ → List (List ℕ) → Judged PlanLine
from_third p word words = cond (is_word (codes "restart") word) (of_node plan_lines.Restart p.cfg words) (from_fourth p word words)

abbrev from_second : Plan → List ℕ → List (List ℕ) → Judged PlanLine
from_second p word words = cond (is_word (codes "episode") word) (episode_of words) (from_third p word words)

module _ (p : Plan) (line word : List ℕ) (words : List (List ℕ)) (out : PlanLine) (plain : is_printable line ≡ true) (words_are : words_of line ≡ word ∷ words) where
  fifth : from_fifth p word words ≡ Ok out → Holds p line out
  fifth e = elim (chosen (is_word (codes "remove") word) (of_both plan_lines.Command (remove_of p.cfg words)) (Err kinds.Word) (Ok out) e) [
    | inl h ↦ commanded p line (remove_of p.cfg words) out (λ told. remove_of_ok p.cfg line words told (begins line (codes "remove") word words words_are h.0)) h.1
    | inr h ↦ absurd (let bad = h.1 in cc)
  ]

  fourth : from_fourth p word words ≡ Ok out → Holds p line out
  fourth e = elim (chosen (is_word (codes "table") word) (of_both plan_lines.Command (table_of p.cfg words)) (from_fifth p word words) (Ok out) e) [
    | inl h ↦ commanded p line (table_of p.cfg words) out (λ told. table_of_ok p.cfg line words told (begins line (codes "table") word words words_are h.0)) h.1
    | inr h ↦ fifth h.1
  ]

  third : from_third p word words ≡ Ok out → Holds p line out
  third e = elim (chosen (is_word (codes "restart") word) (of_node plan_lines.Restart p.cfg words) (from_fourth p word words) (Ok out) e) [
    | inl h ↦ restarted p line words out (begins line (codes "restart") word words words_are h.0) h.1
    | inr h ↦ fourth h.1
  ]

  second : from_second p word words ≡ Ok out → Holds p line out
  second e = elim (chosen (is_word (codes "episode") word) (episode_of words) (from_third p word words) (Ok out) e) [
    | inl h ↦ episode_ok p line words out (begins line (codes "episode") word words words_are h.0) h.1
    | inr h ↦ third h.1
  ]

  first : plan_form_of p.cfg (length p.submitters) (body_of line) (word ∷ words) ≡ Ok out → Holds p line out
  first e = elim (chosen (is_word (codes "submit") word) (of_both plan_lines.Submit (submit_of (length p.submitters) (body_of line) words)) (from_second p word words) (Ok out) e) [
    | inl h ↦ submitted p line words out plain (begins line (codes "submit") word words words_are h.0) h.1
    | inr h ↦ second h.1
  ]

plan_form_of_ok : (p : Plan) (line : List ℕ) (words : List (List ℕ)) (out : PlanLine) → is_printable line ≡ true → words_of line ≡ words
    → plan_form_of p.cfg (length p.submitters) (body_of line) words ≡ Ok out → Holds p line out
plan_form_of_ok p line [] out plain w e = absurd cc
plan_form_of_ok p line (word ∷ words) out plain w e = first p line word words out plain w e

pub plan_line_in_ok : (p : Plan) (line : List ℕ) (out : PlanLine) → plan_line_in p line ≡ Ok out
    → IsTrue (is_printable line) × SpellsPlanLine line out × IsValidLine p out
unfolding plan_line_in
plan_line_in_ok p line out e =
    elim (chosen (not (is_printable line)) (Err kinds.Byte) (plan_form_of p.cfg (length p.submitters) (body_of line) (words_of line)) (Ok out) e) [
      | inl h ↦ absurd (let bad = h.1 in cc)
      | inr h ↦
          let plain : is_printable line ≡ true = grind (arith, nat_tests, h.0) in
          let s = plan_form_of_ok p line (words_of line) out plain refl h.1 in (plain, s.0, s.1)
    ]

-- ---- and back

spelled : (p : Plan) (line : List ℕ) (words : List (List ℕ)) (out : PlanLine) → IsTrue (is_printable line) → words_of line ≡ words
    → plan_form_of p.cfg (length p.submitters) (body_of line) words ≡ Ok out → plan_line_in p line ≡ Ok out
unfolding plan_line_in
spelled p line words out plain w f = rw (plain, w) f

episode_back : (word : List ℕ) (turns : ℕ) → SpellsDecimal word turns → 1 ≤ turns → turns ≤ 2000 → episode_of (word ∷ []) ≡ Ok (plan_lines.Episode turns)
unfolding episode_of
episode_back word turns s some few = rw (number_where_back (from_to 1 2000) word turns s (from_to_true 1 2000 turns some few)) refl

pub plan_line_in_back : (p : Plan) (line : List ℕ) (out : PlanLine) → IsTrue (is_printable line) → SpellsPlanLine line out → IsValidLine p out
    → plan_line_in p line ≡ Ok out
plan_line_in_back p line (plan_lines.Submit by body) plain s v =
    let b = submission_back line by body s in
    spelled p line (codes "submit" ∷ b.word ∷ b.words) (plan_lines.Submit by body) plain b.words_are (ap (of_both plan_lines.Submit) (submit_back (length p.submitters) (body_of line) b.word b.words by body b.client_is v.0 b.body_is v.1))
plan_line_in_back p line (plan_lines.Episode turns) plain s v =
    spelled p line (codes "episode" ∷ s.0 ∷ []) (plan_lines.Episode turns) plain s.1 (episode_back s.0 turns s.2 v.0 v.1)
plan_line_in_back p line (plan_lines.Restart node) plain s v =
    spelled p line (codes "restart" ∷ node_name node ∷ []) (plan_lines.Restart node) plain s (node_back p.cfg plan_lines.Restart node v)
plan_line_in_back p line (plan_lines.Command node (commands.Table rounds rows)) plain s v =
    spelled p line (codes "table" ∷ node_name node ∷ s.0) (plan_lines.Command node (commands.Table rounds rows)) plain s.1 (ap (of_both plan_lines.Command) (table_back p.cfg node s.0 rounds rows s.2 v.0 v.1))
plan_line_in_back p line (plan_lines.Command node (commands.Remove shard)) plain s v =
    spelled p line (codes "remove" ∷ node_name node ∷ s.0 ∷ []) (plan_lines.Command node (commands.Remove shard)) plain s.1 (ap (of_both plan_lines.Command) (remove_back p.cfg node s.0 shard s.2 v.0 v.1))

-- Lines of a plan judged one after another: the lines so far, and those that are left.
use Rattle.std.proofs.Common.{◌≡◌, ℕ, ◌+◌, List, [], ◌∷◌, ◌++◌, Result, Ok, Err, refl, ap, sym, append_assoc, append-nil}
use Rattle.record_codec.specs.Reading.{◌>>=◌}
use Rattle.msg_wire.specs.Valid.{node_count, line_entries}
use Rattle.script_text.specs.Names.{Plan, PlanLine, ScriptKind, ScriptError}
use Rattle.script_text.specs.Names.script_errors
use Rattle.script_text.specs.Lines.{Line}
use Rattle.script_text.specs.JudgedPlans.{plan_line_in}
use Rattle.script_text.specs.ReadingPlans.{within_limit, plan_lines_in}

-- lines in front of those that are still to be judged
abbrev pub before : List PlanLine → Result (List PlanLine) ScriptError → Result (List PlanLine) ScriptError
before front (Ok rest) = Ok (front ++ rest)
before front (Err e) = Err e

joined : (front : List PlanLine) (x : PlanLine) (r : Result (List PlanLine) ScriptError) → before front (r >>= λ rest. Ok (x ∷ rest)) ≡ before (front ++ x ∷ []) r
joined front x (Ok rest) = ap Ok (sym (append_assoc front (x ∷ []) rest))
joined front x (Err e) = refl

module _ (p : Plan) (entries : ℕ) (front : List PlanLine) (line : Line) (rest all : List Line) (all_is : all ≡ line ∷ rest) where
  pub plan_next : (x : PlanLine) (more : ℕ) → plan_line_in p line.bytes ≡ Ok x → within_limit line.number (entries + line_entries (node_count p.cfg) x) ≡ Ok more
      → before front (plan_lines_in p entries all) ≡ before (front ++ x ∷ []) (plan_lines_in p more rest)
  plan_next x more e w = rw (all_is, e, w) (joined front x (plan_lines_in p more rest))

  pub plan_refused : (kind : ScriptKind) → plan_line_in p line.bytes ≡ Err kind
      → before front (plan_lines_in p entries all) ≡ Err (script_errors.At line.number kind)
  plan_refused kind e = rw (all_is, e) refl

  pub plan_too_long : (x : PlanLine) (error : ScriptError) → plan_line_in p line.bytes ≡ Ok x
      → within_limit line.number (entries + line_entries (node_count p.cfg) x) ≡ Err error → before front (plan_lines_in p entries all) ≡ Err error
  plan_too_long x error e w = rw (all_is, e, w) refl

pub plan_end : (p : Plan) (entries : ℕ) (front : List PlanLine) (all : List Line) → all ≡ [] → before front (plan_lines_in p entries all) ≡ Ok front
plan_end p entries front all all_is = rw (all_is, append-nil) refl

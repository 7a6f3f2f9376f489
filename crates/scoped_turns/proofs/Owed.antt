-- What a thread owes, once it is kept.
use Rattle.std.proofs.Common.{ℕ, List, sym, subst}
use Rattle.std.specs.List.{AllZip}
use Rattle.scoped_turns.specs.declared.started.Turns.{Turns}
use Rattle.scoped_turns.specs.declared.started.Started.{Started}
use Rattle.scoped_turns.specs.declared.started.Started.TheVariants as starts
use Rattle.scoped_turns.specs.Started.{IsOwed, Keeps, promised}
use Rattle.scoped_turns.proofs.Pairs.{through}

kept : {E A : Type 0} (Took : E → ℕ → A → A → Type 0) (env : E) (turns : ℕ) (before : A) (one : Started A (Turns E A)) (after : A)
    → IsOwed Took env turns before one → Keeps (promised Took) one after → Took env turns before after
kept Took env turns before (starts.There handle) after owed keeps =
    let p = handle.promise in
    subst (λ e. Took e turns before after) owed.0
    (subst (λ n. Took p.env.value n before after) owed.1 (subst (λ b. Took p.env.value p.turns b after) owed.2 keeps))
kept Took env turns before (starts.Here actor) after owed same = subst (Took env turns before) (sym same) owed

pub all_kept : {E A : Type 0} (Took : E → ℕ → A → A → Type 0) (env : E) (turns : ℕ) (before : List A) (all : List (Started A (Turns E A))) (after : List A)
    → AllZip (IsOwed Took env turns) before all → AllZip (Keeps (promised Took)) all after → AllZip (Took env turns) before after
all_kept Took env turns before all after owed keeps =
    through (IsOwed Took env turns) (Keeps (promised Took)) (Took env turns) (kept Took env turns) before all after owed keeps

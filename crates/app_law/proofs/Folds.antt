-- The fold of two logs is the fold of the second from that of the first.
use Rattle.std.proofs.Common.{◌≡◌, ℕ, List, [], ◌∷◌, ◌++◌, refl, sym, ap, ◌∙◌, append_assoc}
use Rattle.record_codec.specs.declared.record.Record.{Record}
use Rattle.app_law.specs.Folds.{fold_of, outputs_of}

-- the fold of two logs, one after the other
pub fold_of_append : {S : Type 0} (next : S → Record → S) (s : S) (before after : List Record)
    → fold_of next s (before ++ after) ≡ fold_of next (fold_of next s before) after
fold_of_append next s [] after = refl
fold_of_append next s (r ∷ before) after = fold_of_append next (next s r) before after

-- the outputs of two logs, one after the other
pub outputs_of_append : {S : Type 0} (next : S → Record → S) (output : S → Record → List ℕ) (s : S) (before after : List Record)
    → outputs_of next output s (before ++ after) ≡ outputs_of next output s before ++ outputs_of next output (fold_of next s before) after
outputs_of_append next output s [] after = refl
outputs_of_append next output s (r ∷ before) after =
    ap (λ rest. output s r ++ rest) (outputs_of_append next output (next s r) before after) ∙ sym (append_assoc (output s r) (outputs_of next output (next s r) before) (outputs_of next output (fold_of next (next s r) before) after))

-- What a log makes of an application: its state, its output and its shown text.
use Rattle.std.specs.Prelude.{ℕ, List, [], ◌∷◌, ◌++◌}
use Rattle.record_codec.specs.declared.record.Record.{Record}

-- an application's state after a log: from the given state, one record after another
abbrev pub fold_of : {S : Type 0} → (S → Record → S) → S → List Record → S
fold_of next s [] = s
fold_of next s (r ∷ log) = fold_of next (next s r) log

-- the output of a log's records, joined
abbrev pub outputs_of : {S : Type 0} → (S → Record → S) → (S → Record → List ℕ) → S → List Record → List ℕ
outputs_of next output s [] = []
outputs_of next output s (r ∷ log) = output s r ++ outputs_of next output (next s r) log

-- the text that the state after a log is shown as
abbrev pub shown_after : {S : Type 0} → (S → Record → S) → (S → List ℕ) → S → List Record → List ℕ
shown_after next shown s log = shown (fold_of next s log)

use Rattle.std.proofs.Common.{◌≡◌, ◌+◌, ◌++◌, ◌∷◌, [], ℕ, List, Option, length, inl, subst}
use Rattle.gate_vault.specs.File.{payload, gate_after, StandsFor}
use Rattle.gate_vault.specs.inside.Writes.{WrittenOver, IsPut, KeepsClosed}
use Rattle.gate_vault.specs.Put.{IsTornPut, TellsBeforeOrAfter}
use Rattle.gate_vault.proofs.Again.{on_ok_then, on_err_then, on_err_always}
use Rattle.gate_vault.proofs.FrameBytes.{IsStaged, stands_with, torn_behind, written_behind, torn_gate, written_gate, staged_stands}
use Rattle.gate_vault.proofs.Moments.{leaves_then, leaves_widened}
use Rattle.gate_vault.proofs.frame.write_frame.Goals as goal

-- what the first put leaves, where it answered Ok
staged : (entries : List (List ℕ)) (entry : List ℕ) (gate : ℕ) → gate ≡ gate_after entries → (bytes file after : List ℕ) → bytes ≡ payload entry ++ (0 ∷ [])
    → StandsFor file entries → WrittenOver (gate + 1) bytes file after → IsStaged entries entry after
staged entries entry gate place bytes file after are stands written =
    written_behind entries entry gate place file after stands (subst (λ (b : List ℕ). WrittenOver (gate + 1) b file after) are written)

-- the second put, whole
opened : (entries : List (List ℕ)) (entry : List ℕ) (gate : ℕ) → gate ≡ gate_after entries
    → (first : List ℕ) (seen : Option (List ℕ)) (outcomes : List ℕ → Type 0) → IsStaged entries entry first
    → IsPut gate (1 ∷ []) first seen outcomes → KeepsClosed seen outcomes (entries ++ entry ∷ [])
opened entries entry gate place first seen outcomes after put = record {
  file = put.file;
  told = put.told;
  stands = written_gate entries entry gate place first put.file after put.written;
  only = put.only;
}

-- and torn
half_opened : (entries : List (List ℕ)) (entry : List ℕ) (gate : ℕ) → gate ≡ gate_after entries → (first : List ℕ) (seen : Option (List ℕ))
    → IsStaged entries entry first
    → IsTornPut gate 1 first seen → TellsBeforeOrAfter seen entries entry
half_opened entries entry gate place first seen after torn =
    (torn.0, torn.1, staged_stands entries entry torn.0 (torn_gate entries entry gate place first torn.0 after torn.2))

pub returns-in_err-put-clause-failed : goal.returns-in_err-put-clause-failed
returns-in_err-put-clause-failed g c = λ entries entry file place bytes told stands.
    let torn = c.in_err-put.ensures.failed file told in
    let tells : TellsBeforeOrAfter (g.D.Disk.seen c.put.new.disk) entries entry =
    (torn.0, torn.1, inl (torn_behind entries entry c.args.gate place (length c.args.bytes.now) file torn.0 stands torn.2)) in
    on_err_always _ _ tells

pub returns-in_err-put-clause-any_moment : goal.returns-in_err-put-clause-any_moment
returns-in_err-put-clause-any_moment g c = λ entries entry file place bytes told only stands.
    leaves_widened g.D.Disk.moment g.D.Disk.left_since _ _ _ _ (c.in_err-put.ensures.any_moment file only)
    (λ f torn. inl (torn_behind entries entry c.args.gate place (length c.args.bytes.now) file f stands torn))

pub returns-clause-acknowledged : goal.returns-clause-acknowledged
returns-clause-acknowledged g c = λ entries entry file place bytes told stands.
    let first = c.in_ok-put.ensures.done file told in
    let after = staged entries entry c.args.gate place c.args.bytes.now file first.file bytes stands first.written in
    on_ok_then _ _ _ (opened entries entry c.args.gate place first.file _ _ after) (c.put-2.ensures.done first.file first.told)

pub returns-clause-failed : goal.returns-clause-failed
returns-clause-failed g c = λ entries entry file place bytes told stands.
    let first = c.in_ok-put.ensures.done file told in
    let after = staged entries entry c.args.gate place c.args.bytes.now file first.file bytes (stands_with file entries stands) first.written in
    on_err_then _ _ _ (half_opened entries entry c.args.gate place first.file _ after) (c.put-2.ensures.failed first.file first.told)

pub returns-clause-any_moment : goal.returns-clause-any_moment
returns-clause-any_moment g c = λ entries entry file place bytes told only stands.
    let first = c.in_ok-put.ensures.done file told in
    let after = staged entries entry c.args.gate place c.args.bytes.now file first.file bytes (stands_with file entries stands) first.written in
    leaves_then g.D.Disk.moment g.D.Disk.left_since _ _ _ _ _ _ (c.in_ok-put.ensures.any_moment file only) (c.put-2.ensures.any_moment first.file first.only)
    (λ f torn. inl (torn_behind entries entry c.args.gate place (length c.args.bytes.now) file f stands torn))
    (λ f torn. staged_stands entries entry f (torn_gate entries entry c.args.gate place first.file f after torn))

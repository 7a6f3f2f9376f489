use Rattle.std.proofs.Common.{◌≡◌, ◌∙◌, ◌++◌, ◌∷◌, [], arith}
use Rattle.gate_vault.specs.File.{payload}
use Rattle.gate_vault.specs.Put.{TellsBeforeOrAfter}
use Rattle.gate_vault.proofs.Again.{on_err_always}
use Rattle.gate_vault.proofs.FrameBytes.{closed_stands, areshort_append, gate_after_append}
use Rattle.gate_vault.proofs.vault.Vault.append.Goals as goal

pub returns-in_err-write_frame-clause-any_moment : goal.returns-in_err-write_frame-clause-any_moment
returns-in_err-write_frame-clause-any_moment g c = λ entries keeps.
    let bytes : c.as_slice.result.now ≡ payload c.args.entry.now ++ (0 ∷ []) = c.as_slice.ensures ∙ c.in_ok-bytes.ensures in
    c.in_err-write_frame.ensures.any_moment entries c.args.entry.now keeps.file keeps.gate bytes keeps.told keeps.only keeps.stands

pub returns-in_err-write_frame-clause-failed : goal.returns-in_err-write_frame-clause-failed
returns-in_err-write_frame-clause-failed g c = λ entries keeps.
    let bytes : c.as_slice.result.now ≡ payload c.args.entry.now ++ (0 ∷ []) = c.as_slice.ensures ∙ c.in_ok-bytes.ensures in
    let tells : TellsBeforeOrAfter (g.D.Disk.seen c.write_frame.new.disk) entries c.args.entry.now =
    c.in_err-write_frame.ensures.failed entries c.args.entry.now keeps.file keeps.gate bytes keeps.told keeps.stands in
    on_err_always _ _ tells

pub returns-clause-acknowledged : goal.returns-clause-acknowledged
returns-clause-acknowledged g c = λ entries keeps.
    let bytes : c.as_slice.result.now ≡ payload c.args.entry.now ++ (0 ∷ []) = c.as_slice.ensures ∙ c.in_ok-bytes.ensures in
    let kept = c.in_ok-write_frame.ensures.acknowledged entries c.args.entry.now keeps.file keeps.gate bytes keeps.told keeps.stands in
    record {
      file = kept.file;
      told = kept.told;
      stands = closed_stands kept.file (entries ++ c.args.entry.now ∷ []) kept.stands;
      only = kept.only;
      short = areshort_append entries c.args.entry.now keeps.short (omega arith);
      gate = omega (arith, gate_after_append entries c.args.entry.now, keeps.gate, c.in_ok-next.ensures);
    }

pub returns-clause-any_moment : goal.returns-clause-any_moment
returns-clause-any_moment g c = λ entries keeps.
    let bytes : c.as_slice.result.now ≡ payload c.args.entry.now ++ (0 ∷ []) = c.as_slice.ensures ∙ c.in_ok-bytes.ensures in
    c.in_ok-write_frame.ensures.any_moment entries c.args.entry.now keeps.file keeps.gate bytes keeps.told keeps.only keeps.stands

pub returns-clause-closed : goal.returns-clause-closed
returns-clause-closed g c = λ entries keeps.
    let bytes : c.as_slice.result.now ≡ payload c.args.entry.now ++ (0 ∷ []) = c.as_slice.ensures ∙ c.in_ok-bytes.ensures in
    let kept = c.in_ok-write_frame.ensures.acknowledged entries c.args.entry.now keeps.file keeps.gate bytes keeps.told keeps.stands in
    (kept.file, kept.told, kept.stands)

use Rattle.std.proofs.Common.{◌≡◌, ◌∙◌, ℕ, List, [], Some, false, sym, refl, subst, ap}
use Rattle.std.specs.Prelude.{IsTrue}
use Rattle.shelf_vaults.specs.Sights.{sight}
use Rattle.speclog.specs.Refusals.{plan_refusal_of}
use Rattle.speclog.specs.Runs.{Runs, ran_in}
use Rattle.speclog.specs.Shelves.{Shelves, Shelving}
use Rattle.speclog.proofs.Completing.{certainly_run}
use Rattle.speclog.proofs.Shelving.{shelf_back, unread, unused}
use Rattle.speclog.proofs.Usage.{nothing_read, usage_speaks}
use Rattle.speclog.proofs.top.top_run.Given
use Rattle.speclog.proofs.top.top_run.Goals as goal

pub returns-in-Some-clause-answer : goal.returns-in-Some-clause-answer
returns-in-Some-clause-answer g c = usage_speaks plan_refusal_of Runs _ _ c.in-Some.word c.refused.result.fault (ran_in c.refused.result) c.refused.ensures.fault

pub returns-in-Ok-clause-ran : goal.returns-in-Ok-clause-ran
returns-in-Ok-clause-ran g c text plan words left size spelled source sink =
    let r = c.in-Ok.ensures.read in
    certainly_run text c.as_slice.result.now r.read (g.S.Source.left c.read_all.new.source) plan c.run_text.result.fault
    (sym left ∙ r.taken) r.to_the_end (c.as_slice.ensures ∙ r.all) spelled c.run_text.ensures.after_reading
    c.run_text.ensures.refused (λ e. sink (c.run_text.ensures.write_fault e))

pub returns-in-Some-clause-disks : goal.returns-in-Some-clause-disks
returns-in-Some-clause-disks g c =
    ([], nothing_read _, unused _ _ _ _ _ c.in-Some.word c.refused.result.fault c.refused.ensures.fault refl)

pub returns-in-Err-clause-disks : goal.returns-in-Err-clause-disks
returns-in-Err-clause-disks g c =
    let r = c.in-Err.ensures.read in
    (r.read, r.taken, unread _ _ _ _ _ c.in-Err.error c.refused-in-Err.result.fault (c.refused-in-Err.ensures.fault ∙ ap Some c.read_fault.ensures) refl)

pub returns-in-Ok-clause-disks : goal.returns-in-Ok-clause-disks
returns-in-Ok-clause-disks g c =
    let r = c.in-Ok.ensures.read in
    let told = sight g.H.Shelf.faults g.H.Shelf.in_a_row g.H.Shelf.is_out g.H.Shelf.given g.H.Shelf.kept in (
      r.read,
      r.taken,
      subst (λ t. Shelves g.H.D.Disk.seen g.H.D.Disk.faults t c.run_text.result.fault
          (record { before = told c.args.shelf.now; after = told c.run_text.new.shelf }) (c.run_text.new.shelf ≡ c.args.shelf.now))
          (c.as_slice.ensures ∙ r.all) c.run_text.ensures.disks,
    )

pub returns-in-Ok-clause-back : goal.returns-in-Ok-clause-back
returns-in-Ok-clause-back g c =
    let told = sight g.H.Shelf.faults g.H.Shelf.in_a_row g.H.Shelf.is_out g.H.Shelf.given g.H.Shelf.kept in
    shelf_back g.H.D.Disk.seen g.H.D.Disk.faults c.as_slice.result.now (record { before = told c.args.shelf.now; after = told c.run_text.new.shelf })
    (c.run_text.new.shelf ≡ c.args.shelf.now) c.run_text.result.fault c.run_text.ensures.disks
    (λ same name. ap (λ s. g.H.Shelf.is_out s name) same ∙ c.requires.on_shelf name) c.requires.on_shelf

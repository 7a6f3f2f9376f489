use Rattle.std.proofs.Common.{◌≡◌, ◌∙◌, inr, length, take, sym, ap, subst}
use Rattle.std.proofs.Math.Seq.{take-length}
use Rattle.std.specs.Io.KnownBytes.{append_known}
use Rattle.shelf_vaults.specs.Sights.{sight}
use Rattle.speclog.specs.Runs.{Runs, ran_in}
use Rattle.speclog.specs.Shelves.{Shelves, Shelving}
use Rattle.speclog.specs.Writes.{Taken}
use Rattle.speclog.proofs.Shelving.{no_memory_left, not_written}
use Rattle.speclog.proofs.Summing.{safe_so, written_in_part, written_whole, written_without_memory}
use Rattle.speclog.proofs.run.run_text.Given
use Rattle.speclog.proofs.run.run_text.Goals as goal

-- ---- the whole summary is out

pub returns-in-Ok-write_all-clause-written : goal.returns-in-Ok-write_all-clause-written
returns-in-Ok-write_all-clause-written g c =
    let summary = c.as_slice.result.now in
    let taken : Taken = record { before = g.K.Sink.taken c.args.sink.now; after = g.K.Sink.taken c.write_all.new.sink } in
    let runs = subst (Runs c.args.text.now c.in-Ok.ran.made) (sym c.as_slice.ensures) c.in-Ok.ensures.ran in
    let out = c.in-Ok-write_all.ensures.written in
    written_whole c.ran.result c.in-Ok.ran.made c.args.text.now summary taken c.ran.ensures.history c.ran.ensures.looks c.ran.ensures.quiet runs
    c.ran.ensures.fault
    (out.out ∙ ap (λ n. append_known taken.before (take n summary)) out.whole ∙ ap (append_known taken.before) (take-length summary))

pub returns-in-Ok-write_all-clause-safe : goal.returns-in-Ok-write_all-clause-safe
returns-in-Ok-write_all-clause-safe g c =
    let summary = c.as_slice.result.now in
    let taken : Taken = record { before = g.K.Sink.taken c.args.sink.now; after = g.K.Sink.taken c.write_all.new.sink } in
    let runs = subst (Runs c.args.text.now c.in-Ok.ran.made) (sym c.as_slice.ensures) c.in-Ok.ensures.ran in
    let out = c.in-Ok-write_all.ensures.written in
    safe_so c.ran.result c.in-Ok.ran.made c.args.text.now summary taken c.ran.ensures.history c.ran.ensures.looks c.ran.ensures.quiet runs
    (out.count, out.out)

-- ---- the sink failed

pub returns-in-Err-Failed-clause-written : goal.returns-in-Err-Failed-clause-written
returns-in-Err-Failed-clause-written g c =
    let summary = c.as_slice.result.now in
    let taken : Taken = record { before = g.K.Sink.taken c.args.sink.now; after = g.K.Sink.taken c.write_all.new.sink } in
    let runs = subst (Runs c.args.text.now c.in-Ok.ran.made) (sym c.as_slice.ensures) c.in-Ok.ensures.ran in
    let ran = c.ran-in-Err-Failed in
    let out = c.in-Err-Failed.ensures.written in
    written_in_part ran.result c.in-Ok.ran.made c.args.text.now summary taken ran.ensures.history ran.ensures.looks ran.ensures.quiet runs
    ran.ensures.fault (out.count, out.out)

pub returns-in-Err-Failed-clause-safe : goal.returns-in-Err-Failed-clause-safe
returns-in-Err-Failed-clause-safe g c =
    let summary = c.as_slice.result.now in
    let taken : Taken = record { before = g.K.Sink.taken c.args.sink.now; after = g.K.Sink.taken c.write_all.new.sink } in
    let runs = subst (Runs c.args.text.now c.in-Ok.ran.made) (sym c.as_slice.ensures) c.in-Ok.ensures.ran in
    let ran = c.ran-in-Err-Failed in
    let out = c.in-Err-Failed.ensures.written in
    safe_so ran.result c.in-Ok.ran.made c.args.text.now summary taken ran.ensures.history ran.ensures.looks ran.ensures.quiet runs (out.count, out.out)

pub returns-in-Err-Failed-clause-disks : goal.returns-in-Err-Failed-clause-disks
returns-in-Err-Failed-clause-disks g c =
    let told = sight g.H.Shelf.faults g.H.Shelf.in_a_row g.H.Shelf.is_out g.H.Shelf.given g.H.Shelf.kept in
    let shelf : Shelving _ = record { before = told c.args.shelf.now; after = told c.run_whole.new.shelf } in
    let same = c.run_whole.new.shelf ≡ c.args.shelf.now in
    subst (λ f. Shelves g.H.D.Disk.seen g.H.D.Disk.faults c.args.text.now f shelf same) (sym c.ran-in-Err-Failed.ensures.fault)
    (not_written g.H.D.Disk.seen g.H.D.Disk.faults c.args.text.now shelf same c.in-Ok.ensures.disks)

-- ---- memory was refused

pub returns-in-Err-OutOfMemory-clause-written : goal.returns-in-Err-OutOfMemory-clause-written
returns-in-Err-OutOfMemory-clause-written g c =
    let taken : Taken = record { before = g.K.Sink.taken c.args.sink.now; after = g.K.Sink.taken c.write_all.new.sink } in
    let runs = subst (Runs c.args.text.now c.in-Ok.ran.made) (sym c.as_slice.ensures) c.in-Ok.ensures.ran in
    let refused = c.refused-in-Err-OutOfMemory in
    let out = c.in-Err-OutOfMemory.ensures.written in
    written_without_memory refused.result.fault (ran_in refused.result) c.in-Ok.ran.made c.args.text.now c.as_slice.result.now taken
    refused.ensures.fault runs (out.count, out.out)

pub returns-in-Err-OutOfMemory-clause-disks : goal.returns-in-Err-OutOfMemory-clause-disks
returns-in-Err-OutOfMemory-clause-disks g c =
    let told = sight g.H.Shelf.faults g.H.Shelf.in_a_row g.H.Shelf.is_out g.H.Shelf.given g.H.Shelf.kept in
    let shelf : Shelving _ = record { before = told c.args.shelf.now; after = told c.run_whole.new.shelf } in
    let same = c.run_whole.new.shelf ≡ c.args.shelf.now in
    subst (λ f. Shelves g.H.D.Disk.seen g.H.D.Disk.faults c.args.text.now f shelf same) (sym c.refused-in-Err-OutOfMemory.ensures.fault)
    (inr (no_memory_left g.H.D.Disk.seen g.H.D.Disk.faults c.args.text.now shelf same c.in-Ok.ensures.disks))

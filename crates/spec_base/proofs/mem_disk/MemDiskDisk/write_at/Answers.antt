use Rattle.std.proofs.Common.{◌≡◌, reverse, ap, ◌∙◌}
use Rattle.spec_base.specs.declared.disk_call.DiskCall.TheVariants.{Write}
use Rattle.spec_base.specs.MemDisk.{DiskMemory}
use Rattle.spec_base.proofs.MemDiskLemmas.{pushed, follows_same, elapses_to}
use Rattle.spec_base.proofs.mem_disk.MemDiskDisk.write_at.Goals as goal

pub returns-then-next_fails-clause-crash : goal.returns-then-next_fails-clause-crash
returns-then-next_fails-clause-crash c =
    follows_same _ _ _ _ (ap (λ (d : DiskMemory). d.calls) c.next_fails.ensures.next)

pub returns-in_err-write_down-clause-crash : goal.returns-in_err-write_down-clause-crash
returns-in_err-write_down-clause-crash c =
    let same : reverse c.self.inside.calls.items ≡ c.args.self.now.calls = ap (λ (d : DiskMemory). d.calls) (c.self.view_is ∙ c.next_fails.ensures.next) in
    follows_same _ _ _ _ (ap reverse c.in_err-write_down.ensures.err_calls ∙ same)

pub returns-clause-time : goal.returns-clause-time
returns-clause-time c =
    let same : reverse c.self.inside.calls.items ≡ c.args.self.now.calls = ap (λ (d : DiskMemory). d.calls) (c.self.view_is ∙ c.next_fails.ensures.next) in
    let call = Write c.args.at c.args.bytes.now in
    elapses_to c.args.self.now.calls (reverse c.write_down.new.calls.items) call
    (pushed c.self.inside.calls.items c.write_down.new.calls.items c.args.self.now.calls call same c.in_ok-write_down.ensures.calls)

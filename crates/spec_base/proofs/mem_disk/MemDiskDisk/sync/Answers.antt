use Rattle.std.proofs.Common.{◌≡◌, reverse, ap, ◌∙◌}
use Rattle.spec_base.specs.declared.disk_call.DiskCall.TheVariants.{Sync}
use Rattle.spec_base.specs.MemDisk.{DiskMemory}
use Rattle.spec_base.proofs.MemDiskLemmas.{pushed, none_new_to}
use Rattle.spec_base.proofs.mem_disk.MemDiskDisk.sync.Goals as goal

pub returns-clause-none_new : goal.returns-clause-none_new
returns-clause-none_new c =
    let same : reverse c.self.inside.calls.items ≡ c.args.self.now.calls = ap (λ (d : DiskMemory). d.calls) (c.self.view_is ∙ c.next_fails.ensures.next) in
    none_new_to c.args.self.now.calls (reverse c.push.new.self.items)
    (pushed c.self.inside.calls.items c.push.new.self.items c.args.self.now.calls Sync same c.in_ok-push.ensures.items)

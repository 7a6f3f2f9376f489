use Rattle.std.proofs.Common.{ap, ◌∙◌, Some, []}
use Rattle.spec_base.specs.MemDisk.{content_of}
use Rattle.spec_base.specs.declared.mem_disk.MemDisk.{MemDisk}
use Rattle.cluster_crew.proofs.tests.toy.core_of.Goals as goal

pub returns-in-Ok : goal.returns-in-Ok
returns-in-Ok c =
    let core = c.new-in-Ok-2.ensures in
    let empty = c.in-Ok.ensures.empty [] (ap (λ (d : MemDisk). Some (content_of d.calls)) c.in_ok-disk.ensures) in
    record {
      name_is = core.name;
      ready = core.ready;
      in_step = core.in_step c.in_ok-node.ensures.node empty;
      none = core.none;
      no_links = ap (λ faults. faults.items) core.faults ∙ c.new-in-Ok.ensures.items;
    }

use Rattle.std.proofs.Common.{◌≡◌, take}
use Rattle.spec_base.specs.MemShelf.{calls_for}
use Rattle.spec_base.proofs.mem_shelf.calls_of.Given as goal

abbrev pub invariant-loop-fail : goal.invariant-loop-fail
invariant-loop-fail l = l.calls.items ≡ calls_for (take l.fail-index l.fails) l.name

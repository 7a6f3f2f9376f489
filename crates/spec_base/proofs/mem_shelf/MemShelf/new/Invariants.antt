use Rattle.std.proofs.Common.{◌≡◌, take}
use Rattle.spec_base.proofs.mem_shelf.MemShelf.new.Given as goal

abbrev pub invariant-loop-fail : goal.invariant-loop-fail
invariant-loop-fail l = l.kept.items ≡ take l.fail-index l.fails

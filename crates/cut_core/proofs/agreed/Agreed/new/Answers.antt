use Rattle.std.proofs.Common.{refl}
use Rattle.cut_core.proofs.Follows.{IsAgreed_first}
use Rattle.cut_core.proofs.agreed.Agreed.new.Goals as goal

pub invariant_of-result : goal.invariant_of-result
invariant_of-result c = IsAgreed_first _ c.base.ensures.valid c.requires refl c.new.ensures.items refl refl c.new-2.ensures

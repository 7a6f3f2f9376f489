use Rattle.std.proofs.Common.{ap, ◌∙◌}
use Rattle.std.specs.FinMap as finite
use Rattle.app_law.proofs.KvLemmas.{IsKeyed_without, map_without}
use Rattle.app_law.proofs.kv.Kv.remove.Goals as goal

pub invariant_of-self : goal.invariant_of-self
invariant_of-self c =
    rw c.drop_entries.ensures (IsKeyed_without c.args.key.now c.self.inside.entries.items c.self.invariant)

pub returns : goal.returns
returns c =
    rw c.drop_entries.ensures (map_without c.args.key.now c.self.inside.entries.items ∙ ap (λ m. finite.remove m c.args.key.now) c.self.view_is)

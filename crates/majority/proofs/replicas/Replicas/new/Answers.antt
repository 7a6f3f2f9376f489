use Rattle.std.proofs.Common.{◌≡◌, ◌<◌, []}
use Rattle.std.proofs.lemmas.List.Elements.{All-nil}
use Rattle.majority.proofs.Lists.{IsDistinct_nil}
use Rattle.majority.proofs.replicas.Replicas.new.Goals as goal

pub invariant_of-result : goal.invariant_of-result
invariant_of-result c =
    let none : c.new.result.items ≡ [] = c.new.ensures in
    rw none (IsDistinct_nil, All-nil (λ number. number < 256))

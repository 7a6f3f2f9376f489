use Rattle.std.proofs.Common.{rules}
use Rattle.cluster_crew.proofs.ToyCrews.{sources_are}
use Rattle.cluster_crew.proofs.tests.runs.desk_of.Goals as goal

pub returns-clause-submitters : goal.returns-clause-submitters
returns-clause-submitters g c =
    sources_are _ _ _ c.new-first.result c.new-second.result c.in_ok-bodies.field-0.items
    c.in_ok-bodies-2.field-0.items _ c.in_ok-two.ensures c.new-first.ensures c.new-second.ensures (search rules) (search rules)

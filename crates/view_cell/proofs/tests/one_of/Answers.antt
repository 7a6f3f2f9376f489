use Rattle.std.proofs.Common.{◌≡◌}
use Rattle.std.proofs.lemmas.List.Elements.{All-pop}
use Rattle.view_cell.specs.Ends.{Watching, watching_at}
use Rattle.view_cell.proofs.tests.one_of.Goals as goal

pub returns : goal.returns
returns g c = (All-pop (λ (pass : Watching). pass ≡ watching_at c.args.publisher.now.cell c.args.opening.now) c.args.passes.items c.pop.new.self.items c.pop.result c.pop.ensures.items c.requires).1

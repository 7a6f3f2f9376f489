use Rattle.std.proofs.Common.{◌≡◌, ◌∙◌, ap}
use Rattle.cut_core.specs.Effects.{effect_of}
use Rattle.cut_core.specs.Fold.{fold_of}
use Rattle.fix_ante.specs.Windows.{Window}
use Rattle.cut_core.specs.Agreements.{Agreement}
use Rattle.node_rules.specs.Bases.{first_window}
use Rattle.node_rules.proofs.base.NodeBase.learn.Goals as goal

-- src/base.rt:159:5
pub returns-clause-effect : goal.returns-clause-effect
returns-clause-effect c =
    let effect : c.in-Ok.effect ≡ effect_of (fold_of c.self.inside.known.first c.self.inside.known.entries) c.args.entry.now =
    c.in-Ok.ensures.next c.count-slot.ensures.count in
    let first : fold_of c.self.inside.known.first c.self.inside.known.entries ≡ fold_of (first_window c.self.inside.cfg) c.self.inside.known.entries =
    ap (λ (w : Window). fold_of w c.self.inside.known.entries) c.self.invariant.first in
    rw (← c.self.view_is) (effect ∙ ap (λ (a : Agreement). effect_of a c.args.entry.now) first)

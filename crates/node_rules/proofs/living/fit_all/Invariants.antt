use Rattle.std.proofs.Common.{◌≡◌, take}
use Rattle.std.specs.List.{fold}
use Rattle.node_rules.proofs.living.fit_all.Given as goal

abbrev pub invariant-loop-item : goal.invariant-loop-item
invariant-loop-item g l = record {
  node : l.node ≡ fold g.K.Kind.fit l.fn.node (take l.item-index l.items);
  fitting : g.K.Kind.is_fitting l.node;
}

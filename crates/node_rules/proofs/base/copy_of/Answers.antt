use Rattle.std.proofs.Common.{◌≡◌}
use Rattle.std.specs.List.{each_same}
use Rattle.node_rules.proofs.Copies.{configs_same}
use Rattle.node_rules.proofs.base.copy_of.Goals as goal

pub returns : goal.returns
returns c =
    let copy = c.in_ok-clone.field-0 in
    let same = c.in_ok-clone.ensures.cases in
    let homes : copy.homes ≡ c.args.cfg.now.homes = each_same c.args.cfg.now.homes copy.homes same.1.1.1.1.0 in
    configs_same copy c.args.cfg.now same.0 same.1.0 same.1.1.0 same.1.1.1.0 homes same.1.1.1.1.1.0 same.1.1.1.1.1.1

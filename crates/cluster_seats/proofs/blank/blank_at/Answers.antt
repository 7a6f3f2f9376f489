use Rattle.std.proofs.Common.{◌≡◌, rules, ap, sym, ◌∙◌, subst}
use Rattle.msg_wire.specs.Valid.{IsValidConfig, IsNodeOf}
use Rattle.cluster_seats.proofs.blank.blank_at.Goals as goal

pub returns : goal.returns
returns g c =
    let same : c.in_ok-copy_of.field-0 ≡ c.args.cfg.now = c.in_ok-copy_of.ensures in
    record {
      start = record {
        valid = subst IsValidConfig (sym same) c.requires.valid;
        here = subst (λ d. IsNodeOf d c.args.name) (sym same) c.requires.here;
        fresh = c.in_ok-node.ensures.node ∙ ap (λ d. g.N.NodeModel.fresh d c.args.name) (sym same);
        unspent = c.in_ok-node.ensures.ready;
      };
      cfg_is = same;
      name_is = search rules;
      faults_are = c.in_ok-faults.ensures;
    }

use Rattle.std.proofs.Common.{◌≡◌, List, ap, ◌∙◌}
use Rattle.std.specs.List.{fold}
use Rattle.node_rules.specs.Names.{Item}
use Rattle.node_rules.specs.Nodes.{Node}
use Rattle.node_rules.proofs.living.Living.restart.Goals as goal

pub settle-requires : goal.settle-requires
settle-requires g c =
    let fit = g.K.Kind.fit in
    let fresh = g.K.Kind.fresh_node c.args.cfg.now c.args.node in
    record {
      cfg = c.args.cfg.now;
      me = c.args.node;
      items = c.args.items.now;
      valid = c.requires.valid;
      here = c.requires.node;
      kind = c.requires.kind;
      each = c.requires.items;
      is =
          c.in_ok-fit_all.ensures
          ∙ ap (λ n. fold fit n c.as_slice.result.now) c.in_ok-node.ensures.node
          ∙ ap (λ (stored : List Item). fold fit fresh stored) c.as_slice.ensures;
    }

use Rattle.std.proofs.Common.{◌≡◌, [], map, refl, sym, ap, ◌∙◌, subst}
use Rattle.std.specs.Prelude.{All}
use Rattle.std.proofs.lemmas.List.Elements.{All-from_recursion}
use Rattle.net_model.specs.Pasts.{past_of}
use Rattle.msg_wire.specs.Nodes.{nodes_of}
use Rattle.msg_wire.specs.Valid.{IsValidConfig, IsNodeOf}
use Rattle.runs.specs.Names.{Config}
use Rattle.runs.specs.Names.nodes
use Rattle.world.specs.AnyNodes.{fresh_any}
use Rattle.world.specs.inside.Kept.{AreParts}
use Rattle.node_order.proofs.NodePlaces.{place_within, nodes_within}
use Rattle.node_rules.proofs.Within.{some_sequencer}
use Rattle.world.proofs.Happening.{nothing_happened, along}
use Rattle.world.proofs.player.Player.new.Goals as goal

pub fresh_nodes-requires-clause-within : goal.fresh_nodes-requires-clause-within
fresh_nodes-requires-clause-within c =
    let cfg = c.args.cfg.now in
    subst (All (IsNodeOf cfg)) (sym (c.as_slice.ensures.value ∙ c.in_ok-order.ensures)) (All-from_recursion (IsNodeOf cfg) (nodes_of cfg) (nodes_within cfg))

pub invariant_of-result : goal.invariant_of-result
invariant_of-result c =
    let cfg = c.in_ok-copy_of.field-0 in
    let same : c.args.cfg.now ≡ cfg = sym c.in_ok-copy_of.ensures in
    let valid : IsValidConfig cfg = subst IsValidConfig same c.requires in
    let order : c.in_ok-order.order.items ≡ nodes_of cfg = c.in_ok-order.ensures ∙ ap nodes_of same in
    let made : c.in_ok-nodes.nodes.items ≡ map (fresh_any cfg) (nodes_of cfg) =
    c.in_ok-nodes.ensures ∙ ap (map (fresh_any c.args.cfg.now)) (c.as_slice.ensures.value ∙ c.in_ok-order.ensures) ∙ ap (λ (d : Config). map (fresh_any d) (nodes_of d)) same in
    let parts : AreParts (record { cfg = cfg; order = c.in_ok-order.order; nodes = c.in_ok-nodes.nodes; history = c.new.result; outbox = c.new-2.result; turn = 0; step = c.new-3.result }) = record {
      order = order;
      turn = place_within cfg (nodes.Seq 0) (some_sequencer cfg valid);
      played =
          along cfg [] (past_of c.new.result) c.in_ok-nodes.nodes.items c.in_ok-nodes.nodes.items [] c.new-2.result
          (ap past_of c.new.ensures) refl c.new-2.ensures
          (nothing_happened cfg c.in_ok-nodes.nodes.items valid made);
      between = c.new-3.ensures;
    } in
    subst AreParts (sym c.in_ok-parts.ensures.ok) parts

-- Of all nodes in their order, an entry changes the one at its node's place.
use Rattle.std.proofs.Common.{◌≡◌, ℕ, true, ◌∷◌, map, Some, sym, ap, ◌∙◌, inl, inr}
use Rattle.std.specs.Prelude.{slice_set}
use Rattle.std.specs.List.{slice_get}
use Rattle.std.specs.Option.{option_map}
use Rattle.std.proofs.lemmas.Bool.{cases_Bool}
use Rattle.std.proofs.lemmas.Option.{slice_get-map}
use Rattle.world.specs.inside.Names.{same_node, nodes_of, IsValidConfig, IsNodeOf, Past, NodeId, Config, HistoryEntry, IsPastOf, leaves_any, node_after, rank_of}
use Rattle.runs.proofs.SameNodes.{same_node_is}
use Rattle.world.proofs.Lists.{set_map}
use Rattle.node_order.proofs.NodePlaces.{place_there, place_only}
use Rattle.world.proofs.After.{own_after, other_after}

-- ---- nodes

-- the node that stands at a place after a past
pub node_there : (cfg : Config) (past : Past) (node : NodeId) → IsNodeOf cfg node
    → slice_get (map (node_after cfg past) (nodes_of cfg)) (rank_of cfg node) ≡ Some (node_after cfg past node)
node_there cfg past node here = slice_get-map (node_after cfg past) (nodes_of cfg) (rank_of cfg node) ∙ ap (option_map (node_after cfg past)) (place_there cfg node here)

others_stay : (cfg : Config) (e : HistoryEntry) (past : Past) (j : ℕ) (node : NodeId) → (j ≡ rank_of cfg e.node → ⊥) → slice_get (nodes_of cfg) j ≡ Some node
    → node_after cfg past node ≡ node_after cfg (e ∷ past) node
others_stay cfg e past j node apart there =
    elim (cases_Bool (same_node e.node node)) [
      | inl same ↦
          let is : e.node ≡ node = same_node_is e.node node same in
          absurd (apart (sym (place_only cfg j node there).0 ∙ ap (rank_of cfg) (sym is)))
      | inr other ↦ sym (other_after cfg node e past other)
    ]

-- an entry leaves of all nodes what its step leaves of its own
pub nodes_after : (cfg : Config) (e : HistoryEntry) (past : Past) → IsValidConfig cfg → IsNodeOf cfg e.node → IsPastOf cfg past → same_node e.node e.node ≡ true
    → slice_set (map (node_after cfg past) (nodes_of cfg)) (rank_of cfg e.node) (leaves_any (node_after cfg past e.node) e.event) ≡ map (node_after cfg (e ∷ past)) (nodes_of cfg)
nodes_after cfg e past valid here run itself =
    ap (slice_set (map (node_after cfg past) (nodes_of cfg)) (rank_of cfg e.node)) (sym (own_after cfg e.node e past valid here run itself))
    ∙ set_map (node_after cfg past) (node_after cfg (e ∷ past)) (nodes_of cfg) (rank_of cfg e.node) e.node (place_there cfg e.node here) (others_stay cfg e past)

-- Nodes with one name are one.
use Rattle.std.proofs.Common.{◌≡◌, ℕ, ◌==◌, true, refl, ap, ◌∙◌}
use Rattle.std.proofs.lemmas.Bool.{eqb-true, eq-eqb, and_parts, and_from}
use Rattle.msg_wire.specs.Nodes.{same_node, same_side}
use Rattle.spec_base.specs.declared.node.Side.{Side}
use Rattle.net_model.specs.Names.{NodeId}
use Rattle.net_model.specs.Names.nodes
use Rattle.spec_base.specs.declared.node.Side.TheVariants as sides

same_side_is : (s t : Side) → same_side s t ≡ true → s ≡ t
same_side_is sides.Primary sides.Primary e = refl
same_side_is sides.Backup sides.Backup e = refl
same_side_is _ _ e = absurd (cc)

side_itself : (s : Side) → same_side s s ≡ true
side_itself sides.Primary = refl
side_itself sides.Backup = refl

pub same_node_is : (a b : NodeId) → same_node a b ≡ true → a ≡ b
same_node_is (nodes.Seq a) (nodes.Seq b) e = ap (λ (n : ℕ). nodes.Seq n) (eqb-true a b e)
same_node_is (nodes.Shard a s) (nodes.Shard b t) e =
    let parts = and_parts (a == b) (same_side s t) e in
    ap (λ (n : ℕ). nodes.Shard n s) (eqb-true a b parts.0) ∙ ap (λ (x : Side). nodes.Shard b x) (same_side_is s t parts.1)
same_node_is (nodes.Client a) (nodes.Client b) e = ap (λ (n : ℕ). nodes.Client n) (eqb-true a b e)
same_node_is (nodes.Consumer a) (nodes.Consumer b) e = ap (λ (n : ℕ). nodes.Consumer n) (eqb-true a b e)
same_node_is _ _ e = absurd (cc)

pub node_itself : (a : NodeId) → same_node a a ≡ true
node_itself (nodes.Seq a) = eq-eqb a a refl
node_itself (nodes.Shard a s) = and_from (a == a) (same_side s s) (eq-eqb a a refl) (side_itself s)
node_itself (nodes.Client a) = eq-eqb a a refl
node_itself (nodes.Consumer a) = eq-eqb a a refl

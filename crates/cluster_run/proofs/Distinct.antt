-- The nodes of a cluster are distinct, and so are their names and their journals.
use Rattle.std.proofs.Common.{◌≡◌, ℕ, suc, ◌+◌, ◌<◌, Bool, true, false, ◌&&◌, ◌||◌, not, List, [], ◌∷◌, map, get_or, Some}
use Rattle.std.proofs.Common.{refl, sym, ap, ◌∙◌, subst, arith}
use Rattle.std.specs.List.{AllByRecursion}
use Rattle.std.specs.Prelude.{slice_get}
use Rattle.msg_wire.specs.declared.config.Config.{Config}
use Rattle.msg_wire.specs.Names.{NodeId}
use Rattle.msg_wire.specs.Names.nodes
use Rattle.msg_wire.specs.Names.sides
use Rattle.msg_wire.specs.Nodes.{nodes_of, same_node}
use Rattle.net_model.proofs.SameNodes.{same_node_is}
use Rattle.net_model.specs.Journals.{OwnSteps, has_journal_of, distinct_nodes}
use Rattle.node_order.proofs.NodePlaces.{place_only}
use Rattle.node_order.specs.Places.{rank_of}
use Rattle.shelf_vaults.specs.Sights.{HaveOwnNames, IsNameOfNone}
use Rattle.spec_base.specs.Spelling.{node_name}

-- how a name begins
abbrev head_of : NodeId → ℕ
head_of (nodes.Seq a) = 113
head_of (nodes.Shard a s) = 115
head_of (nodes.Client a) = 99
head_of (nodes.Consumer a) = 107

begins : (a : NodeId) → get_or (node_name a) 0 0 ≡ head_of a
begins (nodes.Seq a) = refl
begins (nodes.Shard a sides.Primary) = refl
begins (nodes.Shard a sides.Backup) = refl
begins (nodes.Client a) = refl
begins (nodes.Consumer a) = refl

same_heads : (a b : NodeId) → node_name a ≡ node_name b → head_of a ≡ head_of b
same_heads a b same = sym (begins a) ∙ ap (λ l. get_or l 0 0) same ∙ begins b

-- nodes with one name are one
pub one_name : (a b : NodeId) → node_name a ≡ node_name b → a ≡ b
one_name (nodes.Seq a) (nodes.Seq b) same = ap nodes.Seq (omega (arith, ap (λ l. get_or l 1 0) same))
one_name (nodes.Client a) (nodes.Client b) same = ap nodes.Client (omega (arith, ap (λ l. get_or l 1 0) same))
one_name (nodes.Consumer a) (nodes.Consumer b) same = ap nodes.Consumer (omega (arith, ap (λ l. get_or l 1 0) same))
one_name (nodes.Shard a sides.Primary) (nodes.Shard b sides.Primary) same =
    ap (λ n. nodes.Shard n sides.Primary) (omega (arith, ap (λ l. get_or l 1 0) same))
one_name (nodes.Shard a sides.Backup) (nodes.Shard b sides.Backup) same =
    ap (λ n. nodes.Shard n sides.Backup) (omega (arith, ap (λ l. get_or l 1 0) same))
one_name (nodes.Shard a sides.Primary) (nodes.Shard b sides.Backup) same = absurd (omega (arith, ap (λ l. get_or l 2 0) same))
one_name (nodes.Shard a sides.Backup) (nodes.Shard b sides.Primary) same = absurd (omega (arith, ap (λ l. get_or l 2 0) same))
one_name (nodes.Seq a) (nodes.Shard b s) same = absurd (omega (arith, same_heads (nodes.Seq a) (nodes.Shard b s) same))
one_name (nodes.Seq a) (nodes.Client b) same = absurd (omega (arith, same_heads (nodes.Seq a) (nodes.Client b) same))
one_name (nodes.Seq a) (nodes.Consumer b) same = absurd (omega (arith, same_heads (nodes.Seq a) (nodes.Consumer b) same))
one_name (nodes.Shard a s) (nodes.Seq b) same = absurd (omega (arith, same_heads (nodes.Shard a s) (nodes.Seq b) same))
one_name (nodes.Shard a s) (nodes.Client b) same = absurd (omega (arith, same_heads (nodes.Shard a s) (nodes.Client b) same))
one_name (nodes.Shard a s) (nodes.Consumer b) same = absurd (omega (arith, same_heads (nodes.Shard a s) (nodes.Consumer b) same))
one_name (nodes.Client a) (nodes.Seq b) same = absurd (omega (arith, same_heads (nodes.Client a) (nodes.Seq b) same))
one_name (nodes.Client a) (nodes.Shard b s) same = absurd (omega (arith, same_heads (nodes.Client a) (nodes.Shard b s) same))
one_name (nodes.Client a) (nodes.Consumer b) same = absurd (omega (arith, same_heads (nodes.Client a) (nodes.Consumer b) same))
one_name (nodes.Consumer a) (nodes.Seq b) same = absurd (omega (arith, same_heads (nodes.Consumer a) (nodes.Seq b) same))
one_name (nodes.Consumer a) (nodes.Shard b s) same = absurd (omega (arith, same_heads (nodes.Consumer a) (nodes.Shard b s) same))
one_name (nodes.Consumer a) (nodes.Client b) same = absurd (omega (arith, same_heads (nodes.Consumer a) (nodes.Client b) same))

module _ (cfg : Config) where
  -- nodes by their places, from one on
  abbrev FromRank : ℕ → List NodeId → Type 0
  FromRank k [] = Unit {0}
  FromRank k (node ∷ nodes) = (rank_of cfg node ≡ k) × FromRank (suc k) nodes

  from_rank : (k : ℕ) (nodes : List NodeId) → ((i : ℕ) (node : NodeId) → slice_get nodes i ≡ Some node → rank_of cfg node ≡ k + i) → FromRank k nodes
  from_rank k [] each = tt
  from_rank k (node ∷ nodes) each =
      (omega (arith, each 0 node refl), from_rank (suc k) nodes (λ i later at. omega (arith, each (suc i) later at)))

  -- all stand behind a place
  abbrev Behind : ℕ → List NodeId → Type 0
  Behind k = AllByRecursion (λ (node : NodeId). k < rank_of cfg node)

  behind : (k m : ℕ) (nodes : List NodeId) → k < m → FromRank m nodes → Behind k nodes
  behind k m [] below ranked = tt
  behind k m (node ∷ nodes) below ranked = (omega (arith, below, ranked.0), behind k (suc m) nodes (omega (arith, below)) ranked.1)

  name_of_none : (node : NodeId) (nodes : List NodeId) → Behind (rank_of cfg node) nodes → IsNameOfNone nodes (node_name node)
  name_of_none node [] all = tt
  name_of_none node (x ∷ nodes) all = (λ same. omega (arith, all.0, ap (rank_of cfg) (one_name node x same)), name_of_none node nodes all.1)

  own_from : (k : ℕ) (nodes : List NodeId) → FromRank k nodes → HaveOwnNames nodes
  own_from k [] ranked = tt
  own_from k (node ∷ nodes) ranked =
      (name_of_none node nodes (behind (rank_of cfg node) (suc k) nodes (omega (arith, ranked.0)) ranked.1), own_from (suc k) nodes ranked.1)

  all_ranked : FromRank 0 (nodes_of cfg)
  all_ranked = from_rank 0 (nodes_of cfg) (λ i node at. omega (arith, (place_only cfg i node at).0))

  pub nodes_have_own_names : HaveOwnNames (nodes_of cfg)
  nodes_have_own_names = own_from 0 (nodes_of cfg) all_ranked

  abbrev owners : List OwnSteps → List NodeId
  owners = map (λ (j : OwnSteps). j.node)

  or_false : (a b : Bool) → a ≡ false → b ≡ false → (a || b) ≡ false
  or_false a b first second = ap (λ x. x || b) first ∙ second

  and_true : (a b : Bool) → a ≡ true → b ≡ true → (a && b) ≡ true
  and_true a b first second = ap (λ x. x && b) first ∙ second

  other_node : (a b : NodeId) (same : Bool) → same_node a b ≡ same → rank_of cfg b < rank_of cfg a → same_node a b ≡ false
  other_node a b false is above = is
  other_node a b true is above = absurd (omega (arith, above, ap (rank_of cfg) (same_node_is a b is)))

  none_there : (node : NodeId) (journals : List OwnSteps) → Behind (rank_of cfg node) (owners journals) → has_journal_of node journals ≡ false
  none_there node [] all = refl
  none_there node (j ∷ journals) all =
      or_false (same_node j.node node) (has_journal_of node journals) (other_node j.node node (same_node j.node node) refl all.0)
      (none_there node journals all.1)

  distinct_from : (k : ℕ) (journals : List OwnSteps) → FromRank k (owners journals) → distinct_nodes journals ≡ true
  distinct_from k [] ranked = refl
  distinct_from k (j ∷ journals) ranked =
      let none = none_there j.node journals (behind (rank_of cfg j.node) (suc k) (owners journals) (omega (arith, ranked.0)) ranked.1) in
      and_true (not (has_journal_of j.node journals)) (distinct_nodes journals) (ap not none) (distinct_from (suc k) journals ranked.1)

  pub journals_are_distinct : (journals : List OwnSteps) → owners journals ≡ nodes_of cfg → distinct_nodes journals ≡ true
  journals_are_distinct journals same = distinct_from 0 journals (subst (FromRank 0) (sym same) all_ranked)

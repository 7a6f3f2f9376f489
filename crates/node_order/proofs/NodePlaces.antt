-- Each node stands at its place in the order of nodes, and nowhere else.
use Rattle.std.proofs.Common.{◌≡◌, ℕ, zero, suc, ◌+◌, ◌-◌, ◌*◌, ◌<◌, ◌≤◌, List, ◌++◌, length, map, Some, refl, sym, ap, ◌∙◌, subst, inl, inr, arith}
use Rattle.std.specs.List.{AllByRecursion, range_with_len, flat_map, slice_get}
use Rattle.std.proofs.lemmas.Bool.{cases_lt}
use Rattle.std.proofs.lemmas.List.FromFn.{length-map-range_with_len, get_or-map-range_with_len}
use Rattle.std.proofs.lemmas.Option.{slice_get_within, slice_get-get_or}
use Rattle.fix_ante.proofs.Entries.{slice_get_append_left, slice_get_append_right}
use Rattle.msg_wire.specs.Nodes.{sequencers_of, replicas_of, all_replicas_of, clients_of, consumers_of, nodes_of}
use Rattle.msg_wire.specs.Valid.{IsNodeOf}
use Rattle.node_order.specs.Places.{rank_of}
use Rattle.msg_wire.specs.declared.config.Config.{Config}
use Rattle.msg_wire.specs.Names.{NodeId, Side}
use Rattle.msg_wire.specs.Names.nodes
use Rattle.msg_wire.specs.Names.sides
use Rattle.node_order.proofs.Lists.{all_from}

-- ---- names by number

pub numbered : {X : Type 0} → (f : ℕ → X) (n i : ℕ) → i < n → slice_get (map f (range_with_len 0 n)) i ≡ Some (f i)
numbered f n i below =
    let at : 0 + i ≡ i = omega arith in
    slice_get-get_or (map f (range_with_len 0 n)) i (f 0) (omega (arith, below, length-map-range_with_len f 0 n))
    ∙ ap (λ x. Some x) (get_or-map-range_with_len f 0 n i i (f 0) below at)

length_pairs : (a n : ℕ) → length (flat_map replicas_of (range_with_len a n)) ≡ 2 * n
length_pairs a zero = refl
length_pairs a (suc n) = omega (arith, length_pairs (a + 1) n)

-- a side's place in its pair
abbrev place_in : Side → ℕ
place_in sides.Primary = 0
place_in sides.Backup = 1

place_below : (side : Side) (k n : ℕ) → k < n → 2 * k + place_in side < 2 * n
place_below sides.Primary k n below = omega (arith, below)
place_below sides.Backup k n below = omega (arith, below)

pair_there : (a n k : ℕ) (side : Side) → k < n → slice_get (flat_map replicas_of (range_with_len a n)) (2 * k + place_in side) ≡ Some (nodes.Shard (a + k) side)
pair_there a zero k side below = absurd (omega arith)
pair_there a (suc n) zero sides.Primary below = let at : a ≡ a + 0 = omega arith in ap (λ (j : ℕ). Some (nodes.Shard j sides.Primary)) at
pair_there a (suc n) zero sides.Backup below = let at : a ≡ a + 0 = omega arith in ap (λ (j : ℕ). Some (nodes.Shard j sides.Backup)) at
pair_there a (suc n) (suc k) side below =
    let twice : 2 * suc k + place_in side ≡ suc (suc (2 * k + place_in side)) = omega arith in
    let at : a + 1 + k ≡ a + suc k = omega arith in
    ap (slice_get (flat_map replicas_of (range_with_len a (suc n)))) twice
    ∙ pair_there (a + 1) n k side (omega arith) ∙ ap (λ (j : ℕ). Some (nodes.Shard j side)) at

-- ---- each kind has its part of the order

length_sequencers : (c : Config) → length (sequencers_of c) ≡ c.seqs
length_sequencers c = length-map-range_with_len nodes.Seq 0 c.seqs

length_replicas : (c : Config) → length (all_replicas_of c) ≡ 2 * c.shards
length_replicas c = length_pairs 0 c.shards

length_clients : (c : Config) → length (clients_of c) ≡ length c.homes
length_clients c = length-map-range_with_len nodes.Client 0 (length c.homes)

abbrev from_replicas : Config → List NodeId
from_replicas c = all_replicas_of c ++ (clients_of c ++ consumers_of c)

rank_shard : (c : Config) (n : ℕ) (side : Side) → rank_of c (nodes.Shard n side) ≡ c.seqs + (2 * n + place_in side)
rank_shard c n sides.Primary = omega arith
rank_shard c n sides.Backup = omega arith

-- a node stands at its place
pub place_there : (c : Config) (node : NodeId) → IsNodeOf c node → slice_get (nodes_of c) (rank_of c node) ≡ Some node
place_there c (nodes.Seq n) here =
    slice_get_append_left (sequencers_of c) (from_replicas c) n (omega (arith, here, length_sequencers c)) ∙ numbered nodes.Seq c.seqs n here
place_there c (nodes.Shard n side) here =
    let at : 0 + n ≡ n = omega arith in
    let below : 2 * n + place_in side < 2 * c.shards = place_below side n c.shards here in
    ap (slice_get (nodes_of c)) (rank_shard c n side)
    ∙ slice_get_append_right (sequencers_of c) (from_replicas c) c.seqs (2 * n + place_in side) (length_sequencers c)
    ∙ slice_get_append_left (all_replicas_of c) (clients_of c ++ consumers_of c) (2 * n + place_in side) (omega (arith, below, length_replicas c))
    ∙ pair_there 0 c.shards n side here ∙ ap (λ (k : ℕ). Some (nodes.Shard k side)) at
place_there c (nodes.Client n) here =
    let next : c.seqs + 2 * c.shards + n ≡ c.seqs + (2 * c.shards + n) = omega arith in
    ap (slice_get (nodes_of c)) next
    ∙ slice_get_append_right (sequencers_of c) (from_replicas c) c.seqs (2 * c.shards + n) (length_sequencers c)
    ∙ slice_get_append_right (all_replicas_of c) (clients_of c ++ consumers_of c) (2 * c.shards) n (length_replicas c)
    ∙ slice_get_append_left (clients_of c) (consumers_of c) n (omega (arith, here, length_clients c))
    ∙ numbered nodes.Client (length c.homes) n here
place_there c (nodes.Consumer n) here =
    let next : c.seqs + 2 * c.shards + length c.homes + n ≡ c.seqs + (2 * c.shards + (length c.homes + n)) = omega arith in
    ap (slice_get (nodes_of c)) next
    ∙ slice_get_append_right (sequencers_of c) (from_replicas c) c.seqs (2 * c.shards + (length c.homes + n)) (length_sequencers c)
    ∙ slice_get_append_right (all_replicas_of c) (clients_of c ++ consumers_of c) (2 * c.shards) (length c.homes + n) (length_replicas c)
    ∙ slice_get_append_right (clients_of c) (consumers_of c) (length c.homes) n (length_clients c)
    ∙ numbered nodes.Consumer c.consumers n here

-- ---- what stands at a place

-- each node of a part of the order, which begins at a place, stands at its own place
abbrev StandsFrom : Config → ℕ → List NodeId → Type 0
StandsFrom c base xs = (i : ℕ) (node : NodeId) → slice_get xs i ≡ Some node → (rank_of c node ≡ base + i) × IsNodeOf c node

-- a node at its own place, and in the cluster
abbrev StandsAt : Config → ℕ → NodeId → Type 0
StandsAt c i node = (rank_of c node ≡ i) × IsNodeOf c node

found : (c : Config) (i : ℕ) (here node : NodeId) → Some here ≡ Some node → StandsAt c i here → StandsAt c i node
found c i here node e stands = let same : here ≡ node = cc in subst (StandsAt c i) same stands

stands_append : (c : Config) (base n : ℕ) (xs ys : List NodeId) → length xs ≡ n → StandsFrom c base xs → StandsFrom c (base + n) ys
    → StandsFrom c base (xs ++ ys)
stands_append c base n xs ys size first second i node e =
    elim (cases_lt i n) [
      | inl below ↦ first i node (sym (slice_get_append_left xs ys i (omega (arith, below, size))) ∙ e)
      | inr above ↦
          let at : n + (i - n) ≡ i = omega (arith, above) in
          let there : slice_get ys (i - n) ≡ Some node = sym (slice_get_append_right xs ys n (i - n) size) ∙ ap (slice_get (xs ++ ys)) at ∙ e in
          let stands = second (i - n) node there in
          (omega (arith, stands.0, at), stands.1)
    ]

stands_numbered : (c : Config) (base n : ℕ) (f : ℕ → NodeId) → ((i : ℕ) → i < n → StandsAt c (base + i) (f i)) → StandsFrom c base (map f (range_with_len 0 n))
stands_numbered c base n f each i node e =
    let within : i < n = omega (arith, slice_get_within (map f (range_with_len 0 n)) i node e, length-map-range_with_len f 0 n) in
    found c (base + i) (f i) node (sym (numbered f n i within) ∙ e) (each i within)

stands_pairs : (c : Config) (a n : ℕ) → a + n ≤ c.shards → StandsFrom c (c.seqs + 2 * a) (flat_map replicas_of (range_with_len a n))
stands_pairs c a zero few i node e = absurd (cc)
stands_pairs c a (suc n) few zero node e = found c (c.seqs + 2 * a + 0) (nodes.Shard a sides.Primary) node e (omega arith, omega arith)
stands_pairs c a (suc n) few (suc zero) node e = found c (c.seqs + 2 * a + 1) (nodes.Shard a sides.Backup) node e (omega arith, omega arith)
stands_pairs c a (suc n) few (suc (suc i)) node e =
    let stands = stands_pairs c (a + 1) n (omega arith) i node e in
    (omega (arith, stands.0), stands.1)

-- what stands at a place is a node of the cluster, and the place is its own
pub place_only : (c : Config) (i : ℕ) (node : NodeId) → slice_get (nodes_of c) i ≡ Some node → (rank_of c node ≡ i) × IsNodeOf c node
place_only c i node e =
    let seqs : StandsFrom c 0 (sequencers_of c) = stands_numbered c 0 c.seqs nodes.Seq (λ k below. (omega arith, below)) in
    let replicas : StandsFrom c (0 + c.seqs) (all_replicas_of c) =
    (λ k x there. let stands = stands_pairs c 0 c.shards (omega arith) k x there in (omega (arith, stands.0), stands.1)) in
    let clients : StandsFrom c (0 + c.seqs + 2 * c.shards) (clients_of c) =
    stands_numbered c (0 + c.seqs + 2 * c.shards) (length c.homes) nodes.Client (λ k below. (omega arith, below)) in
    let consumers : StandsFrom c (0 + c.seqs + 2 * c.shards + length c.homes) (consumers_of c) =
    stands_numbered c (0 + c.seqs + 2 * c.shards + length c.homes) c.consumers nodes.Consumer (λ k below. (omega arith, below)) in
    let last = stands_append c (0 + c.seqs + 2 * c.shards) (length c.homes) (clients_of c) (consumers_of c) (length_clients c) clients consumers in
    let middle = stands_append c (0 + c.seqs) (2 * c.shards) (all_replicas_of c) (clients_of c ++ consumers_of c) (length_replicas c) replicas last in
    let whole = stands_append c 0 c.seqs (sequencers_of c) (all_replicas_of c ++ (clients_of c ++ consumers_of c)) (length_sequencers c) seqs middle in
    let stands = whole i node e in
    (omega (arith, stands.0), stands.1)

-- every node's place is within the order
pub place_within : (c : Config) (node : NodeId) → IsNodeOf c node → rank_of c node < length (nodes_of c)
place_within c node here = slice_get_within (nodes_of c) (rank_of c node) node (place_there c node here)

-- all nodes are the cluster's
pub nodes_within : (c : Config) → AllByRecursion (IsNodeOf c) (nodes_of c)
nodes_within c = all_from (IsNodeOf c) (nodes_of c) (λ i node e. (place_only c i node e).1)

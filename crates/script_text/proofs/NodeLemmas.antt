-- Nodes by their names.
use Rattle.std.proofs.Common.{◌≡◌, ◌⊎◌, ℕ, zero, suc, ◌+◌, ◌<◌, ◌≤◌, Bool, true, false, cond, List, [], ◌∷◌, ◌++◌, map, get_or, length, Option, Some, None, Ok, Err, refl, sym, ap, subst, ◌∙◌, inl, inr, arith}
use Rattle.std.specs.List.{find, range_with_len, flat_map}
use Rattle.std.proofs.Math.Nat.{eq-or-lt_of_le}
use Rattle.std.proofs.lemmas.Slice.Eq.{bytes_eq-Decides}
use Rattle.spec_base.specs.Spelling.{IsValidNode, node_name}
use Rattle.spec_base.specs.declared.node.Side.{Side}
use Rattle.spec_base.specs.declared.node.Side.TheVariants as sides
use Rattle.spec_base.specs.declared.node.NodeId.TheVariants as nodes
use Rattle.msg_wire.specs.Valid.{IsValidConfig, IsNodeOf, IsSequencerOf}
use Rattle.msg_wire.specs.Nodes.{nodes_of, sequencers_of, all_replicas_of, replicas_of, clients_of, consumers_of}
use Rattle.script_text.specs.Names.{NodeId, Config, ScriptKind}
use Rattle.script_text.specs.Names.kinds
use Rattle.script_text.specs.Words.{is_word}
use Rattle.script_text.specs.Judged.{node_in, some_or}

-- ---- names

-- the first byte of a name, by the kind of node
kind_of : NodeId → ℕ
kind_of (nodes.Seq k) = 113
kind_of (nodes.Shard k side) = 115
kind_of (nodes.Client k) = 99
kind_of (nodes.Consumer k) = 107

first_byte : (n : NodeId) → get_or (node_name n) 0 0 ≡ kind_of n
unfolding kind_of
first_byte (nodes.Seq k) = refl
first_byte (nodes.Shard k sides.Primary) = refl
first_byte (nodes.Shard k sides.Backup) = refl
first_byte (nodes.Client k) = refl
first_byte (nodes.Consumer k) = refl

same_kind : (n m : NodeId) → node_name n ≡ node_name m → kind_of n ≡ kind_of m
same_kind n m e = sym (first_byte n) ∙ (ap (λ name. get_or name 0 0) e ∙ first_byte m)

-- no two nodes have one name
pub one_name : (n m : NodeId) → node_name n ≡ node_name m → n ≡ m
unfolding kind_of
one_name (nodes.Seq a) (nodes.Seq b) e = let h : 48 + a ≡ 48 + b = ap (λ name. get_or name 1 0) e in ap nodes.Seq (omega arith)
one_name (nodes.Shard a sides.Primary) (nodes.Shard b sides.Primary) e = let h : 48 + a ≡ 48 + b = ap (λ name. get_or name 1 0) e in ap (λ k. nodes.Shard k sides.Primary) (omega arith)
one_name (nodes.Shard a sides.Backup) (nodes.Shard b sides.Backup) e = let h : 48 + a ≡ 48 + b = ap (λ name. get_or name 1 0) e in ap (λ k. nodes.Shard k sides.Backup) (omega arith)
one_name (nodes.Client a) (nodes.Client b) e = let h : 48 + a ≡ 48 + b = ap (λ name. get_or name 1 0) e in ap nodes.Client (omega arith)
one_name (nodes.Consumer a) (nodes.Consumer b) e = let h : 48 + a ≡ 48 + b = ap (λ name. get_or name 1 0) e in ap nodes.Consumer (omega arith)
one_name (nodes.Shard a sides.Primary) (nodes.Shard b sides.Backup) e = absurd (omega (arith, ap (λ name. get_or name 2 0) e))
one_name (nodes.Shard a sides.Backup) (nodes.Shard b sides.Primary) e = absurd (omega (arith, ap (λ name. get_or name 2 0) e))
one_name n m e = absurd (omega (arith, same_kind n m e))

-- ---- a name among nodes

abbrev pub Among : NodeId → List NodeId → Type 0
Among n [] = ⊥
Among n (m ∷ ms) = (m ≡ n) ⊎ Among n ms

found_at : (word : List ℕ) (node m : NodeId) (ms : List NodeId) (b : Bool) → is_word (node_name m) word ≡ b → word ≡ node_name node → (m ≡ node) ⊎ Among node ms
    → (Among node ms → find (λ n. is_word (node_name n) word) ms ≡ Some node) → cond b (Some m) (find (λ n. is_word (node_name n) word) ms) ≡ Some node
found_at word node m ms true e named among rest = ap Some (one_name m node (sym ((bytes_eq-Decides word (node_name m)).0 e) ∙ named))
found_at word node m ms false e named (inl same) rest =
    let yes : is_word (node_name m) word ≡ true = (bytes_eq-Decides word (node_name m)).1 (named ∙ ap node_name (sym same)) in cc
found_at word node m ms false e named (inr among) rest = rest among

find_among : (word : List ℕ) (node : NodeId) (ms : List NodeId) → word ≡ node_name node → Among node ms → find (λ n. is_word (node_name n) word) ms ≡ Some node
find_among word node [] named among = absurd among
find_among word node (m ∷ ms) named among = found_at word node m ms (is_word (node_name m) word) refl named among (find_among word node ms named)

-- a node of this name is read
pub node_in_among : (word : List ℕ) (node : NodeId) (ms : List NodeId) → word ≡ node_name node → Among node ms → node_in ms word ≡ Ok node
unfolding node_in
node_in_among word node ms named among = ap (some_or kinds.Node) (find_among word node ms named among)

not_at : (word : List ℕ) (m : NodeId) (ms : List NodeId) (b : Bool) → is_word (node_name m) word ≡ b → (word ≡ node_name m → ⊥)
    → find (λ n. is_word (node_name n) word) ms ≡ None → cond b (Some m) (find (λ n. is_word (node_name n) word) ms) ≡ None
not_at word m ms true e miss rest = absurd (miss ((bytes_eq-Decides word (node_name m)).0 e))
not_at word m ms false e miss rest = rest

find_none : (word : List ℕ) (ms : List NodeId) → ((n : NodeId) → Among n ms → word ≡ node_name n → ⊥) → find (λ n. is_word (node_name n) word) ms ≡ None
find_none word [] miss = refl
find_none word (m ∷ ms) miss = not_at word m ms (is_word (node_name m) word) refl (miss m (inl refl)) (find_none word ms (λ n among. miss n (inr among)))

-- where no node has it, the word is refused
pub node_in_none : (word : List ℕ) (ms : List NodeId) → ((n : NodeId) → Among n ms → word ≡ node_name n → ⊥) → node_in ms word ≡ Err kinds.Node
unfolding node_in
node_in_none word ms miss = ap (some_or kinds.Node) (find_none word ms miss)

found_is : (word : List ℕ) (node m : NodeId) (ms : List NodeId) (b : Bool) → is_word (node_name m) word ≡ b
    → (find (λ n. is_word (node_name n) word) ms ≡ Some node → (word ≡ node_name node) × Among node ms)
    → cond b (Some m) (find (λ n. is_word (node_name n) word) ms) ≡ Some node → (word ≡ node_name node) × Among node (m ∷ ms)
found_is word node m ms true e rest found =
    let same : m ≡ node = cc in ((bytes_eq-Decides word (node_name m)).0 e ∙ ap node_name same, inl same)
found_is word node m ms false e rest found = let later = rest found in (later.0, inr later.1)

find_is : (word : List ℕ) (node : NodeId) (ms : List NodeId) → find (λ n. is_word (node_name n) word) ms ≡ Some node → (word ≡ node_name node) × Among node ms
find_is word node [] found = absurd cc
find_is word node (m ∷ ms) found = found_is word node m ms (is_word (node_name m) word) refl (find_is word node ms) found

some_or_ok : (kind : ScriptKind) (o : Option NodeId) (node : NodeId) → some_or kind o ≡ Ok node → o ≡ Some node
some_or_ok kind None node e = absurd cc
some_or_ok kind (Some n) node e = cc

-- a node that is read is one of them, with this name
pub node_in_ok : (word : List ℕ) (node : NodeId) (ms : List NodeId) → node_in ms word ≡ Ok node → (word ≡ node_name node) × Among node ms
unfolding node_in
node_in_ok word node ms e = find_is word node ms (some_or_ok kinds.Node (find (λ n. is_word (node_name n) word) ms) node e)

-- ---- the nodes of a cluster

among_left : (n : NodeId) (xs ys : List NodeId) → Among n xs → Among n (xs ++ ys)
among_left n [] ys among = absurd among
among_left n (x ∷ xs) ys (inl same) = inl same
among_left n (x ∷ xs) ys (inr among) = inr (among_left n xs ys among)

among_right : (n : NodeId) (xs ys : List NodeId) → Among n ys → Among n (xs ++ ys)
among_right n [] ys among = among
among_right n (x ∷ xs) ys among = inr (among_right n xs ys among)

among_split : (n : NodeId) (xs ys : List NodeId) → Among n (xs ++ ys) → Among n xs ⊎ Among n ys
among_split n [] ys among = inr among
among_split n (x ∷ xs) ys (inl same) = inl (inl same)
among_split n (x ∷ xs) ys (inr among) = elim (among_split n xs ys among) [ inl left ↦ inl (inr left) | inr right ↦ inr right ]

-- numbered on from a number
numbered : (make : ℕ → NodeId) (from count k : ℕ) → from ≤ k → k < from + count → Among (make k) (map make (range_with_len from count))
numbered make from zero k low high = absurd (omega arith)
numbered make from (suc count) k low high =
    elim (eq-or-lt_of_le low) [
      | inl same ↦ inl (ap make same)
      | inr less ↦ inr (numbered make (from + 1) count k (omega arith) (omega arith))
    ]

numbers : (make : ℕ → NodeId) (n : NodeId) (from count : ℕ) → Among n (map make (range_with_len from count)) → (k : ℕ) × (k < from + count) × (make k ≡ n)
numbers make n from zero among = absurd among
numbers make n from (suc count) (inl same) = (from, omega arith, same)
numbers make n from (suc count) (inr among) = let k = numbers make n (from + 1) count among in (k.0, omega (arith, k.1), k.2)

replica : (shard k : ℕ) (side : Side) (rest : List NodeId) → shard ≡ k → Among (nodes.Shard k side) (replicas_of shard ++ rest)
replica shard k sides.Primary rest same = inl (ap (λ s. nodes.Shard s sides.Primary) same)
replica shard k sides.Backup rest same = inr (inl (ap (λ s. nodes.Shard s sides.Backup) same))

replicas_at : (from count k : ℕ) (side : Side) → from ≤ k → k < from + count → Among (nodes.Shard k side) (flat_map replicas_of (range_with_len from count))
replicas_at from zero k side low high = absurd (omega arith)
replicas_at from (suc count) k side low high =
    elim (eq-or-lt_of_le low) [
      | inl same ↦ replica from k side (flat_map replicas_of (range_with_len (from + 1) count)) same
      | inr less ↦ inr (inr (replicas_at (from + 1) count k side (omega arith) (omega arith)))
    ]

shards : (n : NodeId) (from count : ℕ) → Among n (flat_map replicas_of (range_with_len from count))
    → (k : ℕ) × (side : Side) × (k < from + count) × (nodes.Shard k side ≡ n)
shards n from zero among = absurd among
shards n from (suc count) (inl same) = (from, sides.Primary, omega arith, same)
shards n from (suc count) (inr (inl same)) = (from, sides.Backup, omega arith, same)
shards n from (suc count) (inr (inr among)) = let k = shards n (from + 1) count among in (k.0, k.1, omega (arith, k.2), k.3)

-- the sequencers of a cluster
pub sequencer_among : (c : Config) (n : NodeId) → IsSequencerOf c n → Among n (sequencers_of c)
sequencer_among c (nodes.Seq k) h = numbered nodes.Seq 0 c.seqs k (omega arith) (omega (arith, h))
sequencer_among c (nodes.Shard k side) h = absurd h
sequencer_among c (nodes.Client k) h = absurd h
sequencer_among c (nodes.Consumer k) h = absurd h

pub among_sequencers : (c : Config) (n : NodeId) → Among n (sequencers_of c) → IsSequencerOf c n
among_sequencers c n among = let k = numbers nodes.Seq n 0 c.seqs among in subst (IsSequencerOf c) k.2 (omega (arith, k.1))

-- all nodes of a cluster
pub node_among : (c : Config) (n : NodeId) → IsNodeOf c n → Among n (nodes_of c)
node_among c (nodes.Seq k) h =
    among_left (nodes.Seq k) (sequencers_of c) (all_replicas_of c ++ (clients_of c ++ consumers_of c)) (numbered nodes.Seq 0 c.seqs k (omega arith) (omega (arith, h)))
node_among c (nodes.Shard k side) h =
    among_right (nodes.Shard k side) (sequencers_of c) (all_replicas_of c ++ (clients_of c ++ consumers_of c))
    (among_left (nodes.Shard k side) (all_replicas_of c) (clients_of c ++ consumers_of c) (replicas_at 0 c.shards k side (omega arith) (omega (arith, h))))
node_among c (nodes.Client k) h =
    among_right (nodes.Client k) (sequencers_of c) (all_replicas_of c ++ (clients_of c ++ consumers_of c))
    (among_right (nodes.Client k) (all_replicas_of c) (clients_of c ++ consumers_of c)
    (among_left (nodes.Client k) (clients_of c) (consumers_of c) (numbered nodes.Client 0 (length c.homes) k (omega arith) (omega (arith, h)))))
node_among c (nodes.Consumer k) h =
    among_right (nodes.Consumer k) (sequencers_of c) (all_replicas_of c ++ (clients_of c ++ consumers_of c))
    (among_right (nodes.Consumer k) (all_replicas_of c) (clients_of c ++ consumers_of c)
    (among_right (nodes.Consumer k) (clients_of c) (consumers_of c) (numbered nodes.Consumer 0 c.consumers k (omega arith) (omega (arith, h)))))

last_two : (c : Config) (n : NodeId) → Among n (clients_of c ++ consumers_of c) → IsNodeOf c n
last_two c n among =
    elim (among_split n (clients_of c) (consumers_of c) among) [
      | inl here ↦ let k = numbers nodes.Client n 0 (length c.homes) here in subst (IsNodeOf c) k.2 (omega (arith, k.1))
      | inr here ↦ let k = numbers nodes.Consumer n 0 c.consumers here in subst (IsNodeOf c) k.2 (omega (arith, k.1))
    ]

last_three : (c : Config) (n : NodeId) → Among n (all_replicas_of c ++ (clients_of c ++ consumers_of c)) → IsNodeOf c n
last_three c n among =
    elim (among_split n (all_replicas_of c) (clients_of c ++ consumers_of c) among) [
      | inl here ↦ let k = shards n 0 c.shards here in subst (IsNodeOf c) k.3 (omega (arith, k.2))
      | inr rest ↦ last_two c n rest
    ]

pub among_nodes : (c : Config) (n : NodeId) → Among n (nodes_of c) → IsNodeOf c n
among_nodes c n among =
    elim (among_split n (sequencers_of c) (all_replicas_of c ++ (clients_of c ++ consumers_of c)) among) [
      | inl here ↦ let k = numbers nodes.Seq n 0 c.seqs here in subst (IsNodeOf c) k.2 (omega (arith, k.1))
      | inr rest ↦ last_three c n rest
    ]

-- nodes of a cluster are within the limits
pub valid_node : (c : Config) (n : NodeId) → IsValidConfig c → IsNodeOf c n → IsValidNode n
valid_node c (nodes.Seq k) v h = grind (arith, v.seqs, h)
valid_node c (nodes.Shard k side) v h = omega (arith, v.most_shards, h)
valid_node c (nodes.Client k) v h = omega (arith, v.most_clients, h)
valid_node c (nodes.Consumer k) v h = omega (arith, v.most_consumers, h)

pub sequencer_node : (c : Config) (n : NodeId) → IsSequencerOf c n → IsNodeOf c n
sequencer_node c (nodes.Seq k) h = h
sequencer_node c (nodes.Shard k side) h = absurd h
sequencer_node c (nodes.Client k) h = absurd h
sequencer_node c (nodes.Consumer k) h = absurd h

-- ---- what a test and a look-up by names tell together

-- a look-up that knows every valid node by its name
abbrev KnowsNames : List ℕ → Option NodeId → Type 0
KnowsNames word found = (n : NodeId) → IsValidNode n → word ≡ node_name n → found ≡ Some n

pub node_found : (c : Config) (word : List ℕ) (node : NodeId) → word ≡ node_name node → IsNodeOf c node → node_in (nodes_of c) word ≡ Ok node
node_found c word node named h = node_in_among word node (nodes_of c) named (node_among c node h)

pub node_missed : (c : Config) (word : List ℕ) (found : Option NodeId) → IsValidConfig c → KnowsNames word found
    → ((n : NodeId) → found ≡ Some n → IsNodeOf c n → ⊥) → node_in (nodes_of c) word ≡ Err kinds.Node
node_missed c word found v knows miss =
    node_in_none word (nodes_of c) (λ n among named. let h : IsNodeOf c n = among_nodes c n among in miss n (knows n (valid_node c n v h) named) h)

pub sequencer_found : (c : Config) (word : List ℕ) (node : NodeId) → word ≡ node_name node → IsSequencerOf c node → node_in (sequencers_of c) word ≡ Ok node
sequencer_found c word node named h = node_in_among word node (sequencers_of c) named (sequencer_among c node h)

pub sequencer_missed : (c : Config) (word : List ℕ) (found : Option NodeId) → IsValidConfig c → KnowsNames word found
    → ((n : NodeId) → found ≡ Some n → IsSequencerOf c n → ⊥) → node_in (sequencers_of c) word ≡ Err kinds.Node
sequencer_missed c word found v knows miss =
    node_in_none word (sequencers_of c) (λ n among named. let h : IsSequencerOf c n = among_sequencers c n among in miss n (knows n (valid_node c n v (sequencer_node c n h)) named) h)

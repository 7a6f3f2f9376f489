-- Sends to several nodes, one list of them after another.
use Rattle.std.proofs.Common.{◌≡◌, ℕ, ◌+◌, List, [], ◌∷◌, ◌++◌, map, refl, ap, sym, ◌∙◌, append_assoc, arith}
use Rattle.std.specs.List.{range_with_len, flat_map}
use Rattle.std.proofs.lemmas.List.{map-append}
use Rattle.std.proofs.lemmas.List.Elements.{filter-append}
use Rattle.std.proofs.lemmas.List.FromFn.{map-range_with_len_more}
use Rattle.std.proofs.lemmas.Grind.{flat_map-append}
use Rattle.fix_ante.proofs.LocalLemmas.{range_with_len_append}
use Rattle.msg_wire.specs.Nodes.{without_node, replicas_of, sequencers_of, all_replicas_of, clients_of, consumers_of, nodes_of}
use Rattle.node_rules.specs.Names.{NodeId, Message, What, Config}
use Rattle.node_rules.specs.Turns.{Turn, send_all, message_to}

-- first to the ones, then to the others
pub send_all_append : {S : Type 0} (xs ys : List NodeId) (what : What) (t : Turn S) → send_all ys what (send_all xs what t) ≡ send_all (xs ++ ys) what t
send_all_append xs ys what t =
    ap (λ (sends : List Message). record t { sends = sends })
    (append_assoc t.sends (map (message_to t what) xs) (map (message_to t what) ys)
    ∙ ap (λ (more : List Message). t.sends ++ more) (sym (map-append (message_to t what) xs ys)))

-- first to the ones, then to the others, which are all
pub sent_next : {S : Type 0} (xs ys zs : List NodeId) (what : What) (t u v : Turn S) → v ≡ send_all ys what u → u ≡ send_all xs what t → zs ≡ xs ++ ys
    → v ≡ send_all zs what t
sent_next xs ys zs what t u v last first all =
    last ∙ ap (send_all ys what) first ∙ send_all_append xs ys what t ∙ ap (λ (tos : List NodeId). send_all tos what t) (sym all)

-- to the others, of two lists one after the other
others_append : (me : NodeId) (xs ys : List NodeId) → without_node me (xs ++ ys) ≡ without_node me xs ++ without_node me ys
others_append me xs ys = filter-append _ xs ys

pub send_others_append : {S : Type 0} (me : NodeId) (xs ys : List NodeId) (what : What) (t : Turn S)
    → send_all (without_node me ys) what (send_all (without_node me xs) what t) ≡ send_all (without_node me (xs ++ ys)) what t
send_others_append me xs ys what t = sent_next (without_node me xs) (without_node me ys) _ what t _ _ refl refl (others_append me xs ys)

-- the nodes of one more number, and the others among them
pub numbers_more : (f : ℕ → NodeId) (n : ℕ) → map f (range_with_len 0 (n + 1)) ≡ map f (range_with_len 0 n) ++ f n ∷ []
numbers_more f n = map-range_with_len_more f 0 n n (omega arith)

pub others_more : (me : NodeId) (f : ℕ → NodeId) (n : ℕ)
    → without_node me (map f (range_with_len 0 (n + 1))) ≡ without_node me (map f (range_with_len 0 n)) ++ without_node me (f n ∷ [])
others_more me f n = ap (without_node me) (numbers_more f n) ∙ others_append me (map f (range_with_len 0 n)) (f n ∷ [])

-- and the other replicas of one more shard
pub other_replicas_more : (me : NodeId) (n : ℕ)
    → without_node me (flat_map replicas_of (range_with_len 0 (n + 1))) ≡ without_node me (flat_map replicas_of (range_with_len 0 n)) ++ without_node me (replicas_of n)
other_replicas_more me n =
    let more : range_with_len 0 (n + 1) ≡ range_with_len 0 n ++ n ∷ [] = sym (range_with_len_append 0 n 1) ∙ ap (λ (k : ℕ). range_with_len 0 n ++ k ∷ []) (omega arith) in
    ap (λ (shards : List ℕ). without_node me (flat_map replicas_of shards)) more
    ∙ ap (without_node me) (flat_map-append replicas_of (range_with_len 0 n) (n ∷ []))
    ∙ others_append me (flat_map replicas_of (range_with_len 0 n)) (replicas_of n)

-- to all the others, kind after kind
pub send_others_by_kind : {S : Type 0} (me : NodeId) (c : Config) (what : What) (t : Turn S)
    → send_all (without_node me (consumers_of c)) what (send_all (without_node me (clients_of c)) what
    (send_all (without_node me (all_replicas_of c)) what (send_all (without_node me (sequencers_of c)) what t))) ≡ send_all (without_node me (nodes_of c)) what t
send_others_by_kind me c what t =
    send_others_append me (clients_of c) (consumers_of c) what _
    ∙ (send_others_append me (all_replicas_of c) (clients_of c ++ consumers_of c) what _
    ∙ send_others_append me (sequencers_of c) (all_replicas_of c ++ (clients_of c ++ consumers_of c)) what t)

-- Chains: their parts, and what a changed link or block leaves as it was.
use Rattle.std.proofs.Common.{◌≡◌, ◌≢◌, ℕ, zero, suc, ◌+◌, ◌-◌, ◌*◌, ◌<◌, ◌≤◌, List, [], ◌∷◌, ◌++◌, length, get_or, set, take, drop, replicate, min}
use Rattle.std.proofs.Common.{sum, sum_by, ◌⊎◌, inl, inr, refl, sym, ap, ◌∙◌, arith, length-set, length-append, get_or-set_same, get_or-set_other}
use Rattle.std.specs.List.{concat}
use Rattle.std.proofs.lemmas.List.{take_all, take-append-le, length-take-le, append_assoc, append-nil, take-append-drop, length-drop}
use Rattle.std.proofs.Math.Seq.{take-append_seam, take-append-add}
use Rattle.std.proofs.Math.ListN.{drop_of_length-le}
use Rattle.std.proofs.lemmas.List.Sums.{sum_by-cons}
use Rattle.record_pool.specs.Chains.{chain, walk, contents, put_all, numbers_from}
use Rattle.record_pool.specs.Pools.{whole_block, laid_out}
use Rattle.record_pool.specs.inside.Kept.{Misses, Apart, Differ, Below, chains_from}

pub length_chain : (next : List ℕ) (first count : ℕ) → length (chain next first count) ≡ count
length_chain next first zero = refl
length_chain next first (suc count) = ap suc (length_chain next (get_or next first 0) count)

pub length_contents : (blocks : List (List ℕ)) (ns : List ℕ) → length (contents blocks ns) ≡ length ns
length_contents blocks [] = refl
length_contents blocks (n ∷ ns) = ap suc (length_contents blocks ns)

-- a chain is its first blocks, and the chain that goes on after them
pub chain_add : (next : List ℕ) (first a b : ℕ) → chain next first (a + b) ≡ chain next first a ++ chain next (walk next first a) b
chain_add next first zero b = let e : zero + b ≡ b = omega arith in ap (chain next first) e
chain_add next first (suc a) b =
    let e : suc a + b ≡ suc (a + b) = omega arith in
    ap (chain next first) e ∙ ap (λ ns. first ∷ ns) (chain_add next (get_or next first 0) a b)

-- a link that isn't followed may change
pub chain_set : (next : List ℕ) (n v first count : ℕ) → Misses n (chain next first count) → chain (set next n v) first count ≡ chain next first count
chain_set next n v first zero h = refl
chain_set next n v first (suc count) h =
    let link : get_or (set next n v) first 0 ≡ get_or next first 0 = get_or-set_other next n first v 0 h.0 in
    ap (λ m. first ∷ chain (set next n v) m count) link ∙ ap (λ ns. first ∷ ns) (chain_set next n v (get_or next first 0) count h.1)

pub walk_set : (next : List ℕ) (n v first count : ℕ) → Misses n (chain next first count) → walk (set next n v) first count ≡ walk next first count
walk_set next n v first zero h = refl
walk_set next n v first (suc count) h =
    let link : get_or (set next n v) first 0 ≡ get_or next first 0 = get_or-set_other next n first v 0 h.0 in
    ap (λ m. walk (set next n v) m count) link ∙ walk_set next n v (get_or next first 0) count h.1

-- the chain of one that goes on
pub chain_more : (next : List ℕ) (at i count : ℕ) → i < count → chain next at (count - i) ≡ at ∷ chain next (get_or next at 0) (count - (i + 1))
chain_more next at i count h = let e : count - i ≡ suc (count - (i + 1)) = omega arith in ap (chain next at) e

pub walk_more : (next : List ℕ) (at i count : ℕ) → i < count → walk next at (count - i) ≡ walk next (get_or next at 0) (count - (i + 1))
walk_more next at i count h = let e : count - i ≡ suc (count - (i + 1)) = omega arith in ap (walk next at) e

pub laid_out_more : (i count : ℕ) (bytes : List ℕ) → i < count → laid_out (count - i) bytes ≡ whole_block (take 64 bytes) ∷ laid_out (count - (i + 1))
    (drop 64 bytes)
laid_out_more i count bytes h = let e : count - i ≡ suc (count - (i + 1)) = omega arith in ap (λ n. laid_out n bytes) e

-- blocks that are written
contents_set : (blocks : List (List ℕ)) (n : ℕ) (b : List ℕ) (ms : List ℕ) → Misses n ms → contents (set blocks n b) ms ≡ contents blocks ms
contents_set blocks n b [] h = refl
contents_set blocks n b (m ∷ ms) h =
    ap (λ x. x ∷ contents (set blocks n b) ms) (get_or-set_other blocks n m b [] h.0) ∙ ap (λ xs. get_or blocks m [] ∷ xs) (contents_set blocks n b ms h.1)

pub contents_put_other : (blocks : List (List ℕ)) (ns : List ℕ) (bs : List (List ℕ)) (ms : List ℕ) → Apart ns ms → contents (put_all blocks ns bs) ms ≡
    contents blocks ms
contents_put_other blocks [] bs ms h = refl
contents_put_other blocks (n ∷ ns) [] ms h = refl
contents_put_other blocks (n ∷ ns) (b ∷ bs) ms h = contents_put_other (set blocks n b) ns bs ms h.1 ∙ contents_set blocks n b ms h.0

get_or_put : (blocks : List (List ℕ)) (ns : List ℕ) (bs : List (List ℕ)) (n : ℕ) → Misses n ns → get_or (put_all blocks ns bs) n [] ≡ get_or blocks n []
get_or_put blocks [] bs n h = refl
get_or_put blocks (m ∷ ns) [] n h = refl
get_or_put blocks (m ∷ ns) (b ∷ bs) n h = get_or_put (set blocks m b) ns bs n h.1 ∙ get_or-set_other blocks m n b [] (λ e. h.0 (sym e))

pub length_put : (blocks : List (List ℕ)) (ns : List ℕ) (bs : List (List ℕ)) → length (put_all blocks ns bs) ≡ length blocks
length_put blocks [] bs = refl
length_put blocks (n ∷ ns) [] = refl
length_put blocks (n ∷ ns) (b ∷ bs) = length_put (set blocks n b) ns bs ∙ length-set blocks n b

pub contents_put_same : (blocks : List (List ℕ)) (ns : List ℕ) (bs : List (List ℕ)) → Differ ns → Below (length blocks) ns → length bs ≡ length ns
    → contents (put_all blocks ns bs) ns ≡ bs
contents_put_same blocks [] [] d b h = refl
contents_put_same blocks [] (x ∷ bs) d b h = let no : ⊥ = omega (arith, h) in absurd no
contents_put_same blocks (n ∷ ns) [] d b h = let no : ⊥ = omega (arith, h) in absurd no
contents_put_same blocks (n ∷ ns) (x ∷ bs) d b h =
    let same : length (set blocks n x) ≡ length blocks = length-set blocks n x in
    let below : Below (length (set blocks n x)) ns = rw same b.1 in
    let rest : contents (put_all (set blocks n x) ns bs) ns ≡ bs = contents_put_same (set blocks n x) ns bs d.1 below (omega arith) in
    let here : get_or (put_all (set blocks n x) ns bs) n [] ≡ x = get_or_put (set blocks n x) ns bs n d.0 ∙ get_or-set_same blocks n x [] b.0 in
    ap (λ y. y ∷ contents (put_all (set blocks n x) ns bs) ns) here ∙ ap (λ ys. x ∷ ys) rest

-- the numbers of new links
pub numbers_from_push : (n count : ℕ) → numbers_from n count ++ (n + count) ∷ [] ≡ numbers_from n (count + 1)
numbers_from_push n zero = let e : n + zero ≡ n = omega arith in ap (λ m. m ∷ []) e
numbers_from_push n (suc count) =
    let e : n + suc count ≡ n + 1 + count = omega arith in
    let f : suc count + 1 ≡ suc (count + 1) = omega arith in
    ap (λ m. n ∷ numbers_from (n + 1) count ++ m ∷ []) e ∙ ap (λ ms. n ∷ ms) (numbers_from_push (n + 1) count) ∙ sym (ap (numbers_from n) f)

pub length_numbers_from : (n count : ℕ) → length (numbers_from n count) ≡ count
length_numbers_from n zero = refl
length_numbers_from n (suc count) = ap suc (length_numbers_from (n + 1) count)

-- what a view of the chains has at a place
pub length_chains_from : (blocks : List (List ℕ)) (next : List ℕ) (n : ℕ) (counts : List ℕ) → length (chains_from blocks next n counts) ≡ length counts
length_chains_from blocks next n [] = refl
length_chains_from blocks next n (c ∷ counts) = ap suc (length_chains_from blocks next (n + 1) counts)

pub get_or_chains_from : (blocks : List (List ℕ)) (next : List ℕ) (n : ℕ) (counts : List ℕ) (i : ℕ)
    → get_or (chains_from blocks next n counts) i [] ≡ contents blocks (chain next (n + i) (get_or counts i 0))
get_or_chains_from blocks next n [] i = refl
get_or_chains_from blocks next n (c ∷ counts) zero = let e : n + zero ≡ n = omega arith in sym (ap (λ m. contents blocks (chain next m c)) e)
get_or_chains_from blocks next n (c ∷ counts) (suc i) =
    let e : n + 1 + i ≡ n + suc i = omega arith in
    get_or_chains_from blocks next (n + 1) counts i ∙ ap (λ m. contents blocks (chain next m (get_or counts i 0))) e

pub sum_chains_from : (blocks : List (List ℕ)) (next : List ℕ) (n : ℕ) (counts : List ℕ) → sum_by length (chains_from blocks next n counts) ≡ sum counts
sum_chains_from blocks next n [] = refl
sum_chains_from blocks next n (c ∷ counts) =
    let here : length (contents blocks (chain next n c)) ≡ c = length_contents blocks (chain next n c) ∙ length_chain next n c in
    let rest : sum_by length (chains_from blocks next (n + 1) counts) ≡ sum counts = sum_chains_from blocks next (n + 1) counts in
    sum_by-cons length (contents blocks (chain next n c)) (chains_from blocks next (n + 1) counts)
    ∙ ap (λ k. k + sum_by length (chains_from blocks next (n + 1) counts)) here ∙ ap (λ k. c + k) rest ∙ sym (sum_by-cons (λ x. x) c counts)

-- what is laid out
pub length_laid_out : (count : ℕ) (bytes : List ℕ) → length (laid_out count bytes) ≡ count
length_laid_out zero bytes = refl
length_laid_out (suc count) bytes = ap suc (length_laid_out count (drop 64 bytes))

le_or_lt : (a b : ℕ) → (a ≤ b) ⊎ (b < a)
le_or_lt zero b = inl (omega arith)
le_or_lt (suc a) zero = inr (omega arith)
le_or_lt (suc a) (suc b) = elim (le_or_lt a b) [ inl h ↦ inl (omega (arith, h)) | inr h ↦ inr (omega (arith, h)) ]

-- the first 64 of what is left, or all of it
front_min : (n : ℕ) (bytes : List ℕ) → n ≡ min (length bytes) 64 → take n bytes ≡ take 64 bytes
front_min n bytes is = elim (le_or_lt (length bytes) 64) [
  | inl few ↦ take_all n bytes (omega arith) ∙ sym (take_all 64 bytes few)
  | inr many ↦ let e : n ≡ 64 = omega arith in ap (λ k. take k bytes) e
]

back_min : (n : ℕ) (bytes : List ℕ) → n ≡ min (length bytes) 64 → drop n bytes ≡ drop 64 bytes
back_min n bytes is = elim (le_or_lt (length bytes) 64) [
  | inl few ↦ drop_of_length-le bytes (omega arith) ∙ sym (drop_of_length-le bytes few)
  | inr many ↦ let e : n ≡ 64 = omega arith in ap (λ k. drop k bytes) e
]

-- one more block is written
pub write_more : (blocks : List (List ℕ)) (next : List ℕ) (at i count n : ℕ) (rest part later block : List ℕ) → i < count → n ≡ min (length rest) 64
    → part ≡ take n rest → later ≡ drop n rest → block ≡ whole_block part
    → put_all (set blocks at block) (chain next (get_or next at 0) (count - (i + 1))) (laid_out (count - (i + 1)) later)
    ≡ put_all blocks (chain next at (count - i)) (laid_out (count - i) rest)
write_more blocks next at i count n rest part later block h is front back whole =
    let first : block ≡ whole_block (take 64 rest) = whole ∙ ap whole_block (front ∙ front_min n rest is) in
    let after : later ≡ drop 64 rest = back ∙ back_min n rest is in
    let ns : List ℕ = chain next (get_or next at 0) (count - (i + 1)) in
    ap (λ b. put_all (set blocks at b) ns (laid_out (count - (i + 1)) later)) first
    ∙ ap (λ r. put_all (set blocks at (whole_block (take 64 rest))) ns (laid_out (count - (i + 1)) r)) after
    ∙ sym (ap (λ ms. put_all blocks ms (laid_out (count - i) rest)) (chain_more next at i count h)
    ∙ ap (λ bs. put_all blocks (at ∷ ns) bs) (laid_out_more i count rest h))

-- one more block is read
take_block : (n room : ℕ) (block rest : List ℕ) → length block ≡ 64 → n ≡ min room 64 → take n block ++ take (room - n) rest ≡ take room (block ++ rest)
take_block n room block rest long is = elim (le_or_lt room 64) [
  | inl few ↦
      let e : n ≡ room = omega arith in
      let f : room - n ≡ 0 = omega arith in
      ap (λ k. take n block ++ take k rest) f ∙ append-nil (take n block) ∙ ap (λ k. take k block) e ∙ sym (take-append-le room block rest (omega arith))
  | inr many ↦
      let e : n ≡ 64 = omega arith in
      let f : room ≡ length block + (room - n) = omega arith in
      ap (λ bs. bs ++ take (room - n) rest) (take_all n block (omega arith)) ∙ sym (ap (λ k. take k (block ++ rest)) f ∙ take-append-add block rest (room - n))
]

pub read_more : (blocks : List (List ℕ)) (next : List ℕ) (at i count done n room : ℕ) (front : List ℕ) → i < count → length (get_or blocks at []) ≡ 64
    → n ≡ min (room - done) 64
    → (front ++ take n (get_or blocks at [])) ++ take (room - (done + n)) (concat (contents blocks (chain next (get_or next at 0) (count - (i + 1)))))
    ≡ front ++ take (room - done) (concat (contents blocks (chain next at (count - i))))
read_more blocks next at i count done n room front h long is =
    let block : List ℕ = get_or blocks at [] in
    let rest : List ℕ = concat (contents blocks (chain next (get_or next at 0) (count - (i + 1)))) in
    let e : room - (done + n) ≡ room - done - n = omega arith in
    append_assoc front (take n block) (take (room - (done + n)) rest)
    ∙ ap (λ k. front ++ (take n block ++ take k rest)) e
    ∙ ap (λ bs. front ++ bs) (take_block n (room - done) block rest long is)
    ∙ sym (ap (λ ms. front ++ take (room - done) (concat (contents blocks ms))) (chain_more next at i count h))

-- what is laid out begins with the bytes
pub bytes_laid_out : (count : ℕ) (bytes : List ℕ) → length bytes ≤ 64 * count → take (length bytes) (concat (laid_out count bytes)) ≡ bytes
bytes_laid_out zero [] h = refl
bytes_laid_out zero (b ∷ bytes) h = let no : ⊥ = omega (arith, h) in absurd no
bytes_laid_out (suc count) bytes h =
    let front : List ℕ = take 64 bytes in
    let pad : List ℕ = replicate (64 - length front) 0 in
    let rest : List ℕ = concat (laid_out count (drop 64 bytes)) in
    elim (le_or_lt (length bytes) 64) [
      | inl few ↦
          let all : front ≡ bytes = take_all 64 bytes few in
          ap (take (length bytes)) (append_assoc front pad rest) ∙ ap (λ bs. take (length bytes) (bs ++ (pad ++ rest))) all ∙ take-append_seam bytes (pad
          ++ rest)
      | inr many ↦
          let long : length front ≡ 64 = length-take-le 64 bytes (omega arith) in
          let none : 64 - length front ≡ 0 = omega arith in
          let bare : front ++ pad ≡ front = ap (λ k. front ++ replicate k 0) none ∙ append-nil front in
          let later : length (drop 64 bytes) ≡ length bytes - 64 = length-drop 64 bytes in
          let e : length bytes ≡ length front + length (drop 64 bytes) = omega arith in
          ap (λ bs. take (length bytes) (bs ++ rest)) bare ∙ ap (λ k. take k (front ++ rest)) e ∙ take-append-add front rest (length (drop 64 bytes))
          ∙ ap (λ bs. front ++ bs) (bytes_laid_out count (drop 64 bytes) (omega arith)) ∙ take-append-drop 64 bytes
    ]

-- What the calls of a pool leave of its chains.
use Rattle.std.proofs.Common.{◌≡◌, ◌≢◌, ◌⊎◌, ℕ, zero, suc, ◌+◌, ◌-◌, ◌*◌, ◌^◌, ◌<◌, ◌≤◌, take, drop, mul-zero, eqb, true, false, List, [], ◌∷◌, ◌++◌, length}
use Rattle.std.proofs.Common.{get_or, set, sum, sum_by, replicate, refl, sym, ap, ◌∙◌, subst, inl, inr, append_assoc, arith, length-set, ext_get_or}
use Rattle.std.proofs.Common.{get_or-set_same, get_or-set_other}
use Rattle.std.specs.List.{concat}
use Rattle.std.specs.Int.{div_ceil}
use Rattle.std.proofs.Math.Nat.{le-max_left, le-max_right}
use Rattle.std.proofs.lemmas.Grind.{div_ceil_times, get_or_default_zero}
use Rattle.std.proofs.lemmas.Bool.Decides.{eqb_tells}
use Rattle.std.proofs.lemmas.List.{take-append-le, take_all, length-replicate, get_or_past}
use Rattle.std.proofs.lemmas.List.Folds.{sum_by-replicate}
use Rattle.std.proofs.lemmas.List.Sums.{sum_by-set}
use Rattle.record_pool.specs.Chains.{chain, walk, contents, put_all, numbers_from}
use Rattle.record_pool.specs.Pools.{PoolState, Ref, laid_out, blocks_for, with_bytes, without, fresh_pool, chain_at, bytes_of, Belongs, Keeps, KeepsOthers}
use Rattle.record_pool.specs.inside.Kept.{Misses, Apart, Differ, Below, chains_from, chain_from, IsWhole}
use Rattle.record_pool.proofs.ListLemmas.{Apart_at, Apart_nil, Apart_append, Apart_front, Apart_back, Apart_flip, Differ_append, Differ_front, Differ_back}
use Rattle.record_pool.proofs.ListLemmas.{Differ_apart, Below_append, Below_front, Below_back}
use Rattle.record_pool.proofs.ChainLemmas.{sum_chains_from, length_chains_from, get_or_chains_from, length_chain, length_contents, length_laid_out}
use Rattle.record_pool.proofs.ChainLemmas.{length_put, chain_add, chain_set, walk_set, contents_put_other, contents_put_same, bytes_laid_out}
use Rattle.record_pool.proofs.ChainLemmas.{length_numbers_from}

pub all_blocks : (blocks : List (List ℕ)) (next counts : List ℕ) (head free : ℕ) (pool : PoolState) → IsWhole next counts head free (length blocks)
    → record { free = free; chains = chains_from blocks next 0 counts } ≡ pool → pool.free + sum_by length pool.chains ≡ length pool.chains
all_blocks blocks next counts head free pool whole is =
    let P : PoolState → Type 0 = λ p. p.free + sum_by length p.chains ≡ length p.chains in
    let before : free + sum_by length (chains_from blocks next 0 counts) ≡ length (chains_from blocks next 0 counts) =
    ap (λ n. free + n) (sum_chains_from blocks next 0 counts) ∙ whole.all ∙ sym (length_chains_from blocks next 0 counts ∙ whole.counted) in
    subst P is before

-- what holds at each place of a list of which one place is set
at_set : (P : ℕ → ℕ → Type 0) (counts : List ℕ) (i v : ℕ) → i < length counts → ((n : ℕ) → n ≢ i → P n (get_or counts n 0)) → P i v
    → (n : ℕ) → P n (get_or (set counts i v) n 0)
at_set P counts i v h others here n = elim (eqb_tells n i) [
  | inl e ↦ subst (λ m. P m (get_or (set counts i v) m 0)) (sym e.1) (subst (P i) (sym (get_or-set_same counts i v 0 h)) here)
  | inr e ↦ subst (P n) (sym (get_or-set_other counts i n v 0 e.1)) (others n e.1)
]

-- the chains where that of one block is another now, with other free blocks
whole_set : (next next' counts : List ℕ) (head head' free free' i v total : ℕ) → IsWhole next counts head free total → i < length counts → length next' ≡ total
    → ((n : ℕ) → n ≢ i → chain next' n (get_or counts n 0) ≡ chain next n (get_or counts n 0))
    → Below total (chain next' i v) → Differ (chain next' i v) → Below total (chain next' head' free') → Differ (chain next' head' free')
    → Apart (chain next' i v) (chain next' head' free')
    → ((n : ℕ) → n ≢ i → Apart (chain_from next counts n) (chain next' i v)) → ((n : ℕ) → n ≢ i → Apart (chain_from next counts n) (chain next' head' free'))
    → free' + v ≡ free + get_or counts i 0
    → IsWhole next' (set counts i v) head' free' total
whole_set next next' counts head head' free free' i v total whole at links keep below differ free_below free_differ apart aparts free_aparts count =
    let counts' : List ℕ = set counts i v in
    let changed : sum counts' + get_or counts i 0 ≡ sum counts + v = sum_by-set (λ x. x) counts i v 0 at in
    let from : (n : ℕ) → n ≢ i → (m : ℕ) → n ≢ m → Apart (chain next' n (get_or counts n 0)) (chain next' m (get_or counts' m 0)) =
    λ n other. at_set (λ m c. n ≢ m → Apart (chain next' n (get_or counts n 0)) (chain next' m c)) counts i v at
    (λ m another differs. rw (keep n other, keep m another) (whole.apart n m differs))
    (λ _. rw (keep n other) (aparts n other)) in
    record {
      small = whole.small;
      links = links;
      counted = length-set counts i v ∙ whole.counted;
      free_below = free_below;
      free_differ = free_differ;
      below = at_set (λ n c. Below total (chain next' n c)) counts i v at (λ n other. rw (keep n other) (whole.below n)) below;
      differ = at_set (λ n c. Differ (chain next' n c)) counts i v at (λ n other. rw (keep n other) (whole.differ n)) differ;
      apart = at_set (λ n c. (m : ℕ) → n ≢ m → Apart (chain next' n c) (chain next' m (get_or counts' m 0))) counts i v at from
          (at_set (λ m c. i ≢ m → Apart (chain next' i v) (chain next' m c)) counts i v at
          (λ m other _. rw (keep m other) (Apart_flip (chain_from next counts m) (chain next' i v) (aparts m other)))
          (λ same. absurd (same refl)));
      free_apart = at_set (λ n c. Apart (chain next' n c) (chain next' head' free')) counts i v at (λ n other. rw (keep n other) (free_aparts n other)) apart;
      all = let before : free + sum counts ≡ total = whole.all in omega arith;
    }

-- what callers see of a chain
pub seen_at : (blocks : List (List ℕ)) (next counts : List ℕ) (n : ℕ)
    → get_or (chains_from blocks next 0 counts) n [] ≡ contents blocks (chain_from next counts n)
seen_at blocks next counts n = let e : 0 + n ≡ n = omega arith in get_or_chains_from blocks next 0 counts n
    ∙ ap (λ m. contents blocks (chain next m (get_or counts n 0))) e

-- what callers see of the chains then
chains_set : (blocks blocks' : List (List ℕ)) (next next' counts : List ℕ) (i v : ℕ) (bytes : List (List ℕ)) → i < length counts
    → ((n : ℕ) → n ≢ i → contents blocks' (chain next' n (get_or counts n 0)) ≡ contents blocks (chain next n (get_or counts n 0)))
    → contents blocks' (chain next' i v) ≡ bytes
    → chains_from blocks' next' 0 (set counts i v) ≡ set (chains_from blocks next 0 counts) i bytes
chains_set blocks blocks' next next' counts i v bytes at others here =
    let counts' : List ℕ = set counts i v in
    let old : List (List (List ℕ)) = chains_from blocks next 0 counts in
    let long : length old ≡ length counts = length_chains_from blocks next 0 counts in
    let inside : i < length old = omega (arith, long, at) in
    let seen : (n : ℕ) → contents blocks' (chain next' n (get_or counts' n 0)) ≡ get_or (set old i bytes) n [] =
    at_set (λ n c. contents blocks' (chain next' n c) ≡ get_or (set old i bytes) n []) counts i v at
    (λ n other. others n other ∙ sym (get_or-set_other old i n bytes [] other ∙ seen_at blocks next counts n))
    (here ∙ sym (get_or-set_same old i bytes [] inside)) in
    ext_get_or [] (chains_from blocks' next' 0 counts') (set old i bytes)
    (length_chains_from blocks' next' 0 counts' ∙ length-set counts i v ∙ sym (length-set old i bytes ∙ long))
    (λ n _. seen_at blocks' next' counts' n ∙ seen n)

-- taking the first free blocks
pub none_at_head : (next : List ℕ) (head count free : ℕ) → 1 ≤ free → Apart (chain next head count) (chain next head free) → count ≡ 0
none_at_head next head zero free h a = refl
none_at_head next head (suc count) zero h a = omega arith
none_at_head next head (suc count) (suc free) h a = absurd (a.0.0 refl)

pub free_split : (next : List ℕ) (head count free : ℕ) → count ≤ free
    → chain next head free ≡ chain next head count ++ chain next (walk next head count) (free - count)
free_split next head count free h = let e : free ≡ count + (free - count) = omega arith in ap (chain next head) e ∙ chain_add next head count (free - count)

pub taken_below : (next counts : List ℕ) (head free total count : ℕ) → IsWhole next counts head free total → count ≤ free → Below total (chain next head count)
taken_below next counts head free total count whole h =
    Below_front total (chain next head count) (chain next (walk next head count) (free - count)) (subst (Below total)
    (free_split next head count free h) whole.free_below)

pub head_below : (next counts : List ℕ) (head free total : ℕ) → IsWhole next counts head free total → 1 ≤ free → head < total
head_below next counts head free total whole h = (taken_below next counts head free total 1 whole h).0

pub whole_taken : (next counts : List ℕ) (head free total count : ℕ) → IsWhole next counts head free total → 1 ≤ count → count ≤ free
    → IsWhole next (set counts head count) (walk next head count) (free - count) total
whole_taken next counts head free total count whole some room =
    let front : List ℕ = chain next head count in
    let back : List ℕ = chain next (walk next head count) (free - count) in
    let split : chain next head free ≡ front ++ back = free_split next head count free room in
    let at : head < length counts = omega (arith, head_below next counts head free total whole (omega arith), whole.counted) in
    let none : get_or counts head 0 ≡ 0 = none_at_head next head (get_or counts head 0) free (omega arith) (whole.free_apart head) in
    let apart : (n : ℕ) → Apart (chain_from next counts n) (front ++ back) = λ n. subst (Apart (chain_from next counts n)) split (whole.free_apart n) in
    let differ : Differ (front ++ back) = subst Differ split whole.free_differ in
    whole_set next next counts head (walk next head count) free (free - count) head count total whole at whole.links (λ n _. refl)
    (taken_below next counts head free total count whole room) (Differ_front front back differ)
    (Below_back total front back (subst (Below total) split whole.free_below)) (Differ_back front back differ) (Differ_apart front back differ)
    (λ n _. Apart_front (chain_from next counts n) front back (apart n)) (λ n _. Apart_back (chain_from next counts n) front back (apart n))
    (omega arith)

pub seen_taken : (blocks : List (List ℕ)) (next counts : List ℕ) (head free count : ℕ) (bytes : List ℕ) → IsWhole next counts head free (length blocks)
    → 1 ≤ count → count ≤ free
    → chains_from (put_all blocks (chain next head count) (laid_out count bytes)) next 0 (set counts head count)
    ≡ set (chains_from blocks next 0 counts) head (laid_out count bytes)
seen_taken blocks next counts head free count bytes whole some room =
    let front : List ℕ = chain next head count in
    let back : List ℕ = chain next (walk next head count) (free - count) in
    let split : chain next head free ≡ front ++ back = free_split next head count free room in
    let at : head < length counts = omega (arith, head_below next counts head free (length blocks) whole (omega arith), whole.counted) in
    let others : (n : ℕ) → Apart front (chain_from next counts n) =
    λ n. Apart_flip (chain_from next counts n) front (Apart_front (chain_from next counts n) front back (subst (Apart (chain_from next counts n)) split
    (whole.free_apart n))) in
    chains_set blocks (put_all blocks front (laid_out count bytes)) next next counts head count (laid_out count bytes) at
    (λ n _. contents_put_other blocks front (laid_out count bytes) (chain_from next counts n) (others n))
    (contents_put_same blocks front (laid_out count bytes) (Differ_front front back (subst Differ split whole.free_differ))
    (taken_below next counts head free (length blocks) count whole room) (length_laid_out count bytes ∙ sym (length_chain next head count)))

-- giving a chain back
module _ (next counts : List ℕ) (head free total first c : ℕ) (whole : IsWhole next counts head free total) (has : get_or counts first 0 ≡ suc c) where
  parted : chain next first (suc c) ≡ chain next first c ++ walk next first c ∷ []
  parted = let e : suc c ≡ c + 1 = omega arith in ap (chain next first) e ∙ chain_add next first c 1

  here : chain_from next counts first ≡ chain next first c ++ walk next first c ∷ []
  here = ap (chain next first) has ∙ parted

  pub front_below : Below total (chain next first c)
  front_below = Below_front total (chain next first c) (walk next first c ∷ []) (subst (Below total) here (whole.below first))

  pub last_below : walk next first c < total
  last_below = (Below_back total (chain next first c) (walk next first c ∷ []) (subst (Below total) here (whole.below first))).0

  last_misses : (ns : List ℕ) → Apart (chain_from next counts first) ns → Misses (walk next first c) ns
  last_misses ns apart = Apart_at (chain next first c) [] ns (walk next first c) (subst (λ ms. Apart ms ns) here apart)

  last_misses_front : Misses (walk next first c) (chain next first c)
  last_misses_front =
      (Apart_flip (chain next first c) (walk next first c ∷ []) (Differ_apart (chain next first c) (walk next first c ∷ []) (subst Differ here
      (whole.differ first)))).0

  keeps : (n : ℕ) → n ≢ first → chain (set next (walk next first c) head) n (get_or counts n 0) ≡ chain next n (get_or counts n 0)
  keeps n other = chain_set next (walk next first c) head n (get_or counts n 0) (last_misses (chain_from next counts n) (whole.apart first n (λ e. other
      (sym e))))

  given : chain (set next (walk next first c) head) first (free + suc c) ≡ chain_from next counts first ++ chain next head free
  given =
      let next' : List ℕ = set next (walk next first c) head in
      let e : free + suc c ≡ c + suc free = omega arith in
      let f : walk next' first c ≡ walk next first c = walk_set next (walk next first c) head first c last_misses_front in
      let g : chain next' first c ≡ chain next first c = chain_set next (walk next first c) head first c last_misses_front in
      let at : walk next first c < length next = omega (arith, last_below, whole.links) in
      let h : get_or next' (walk next first c) 0 ≡ head = get_or-set_same next (walk next first c) head 0 at in
      let k : chain next' head free ≡ chain next head free = chain_set next (walk next first c) head head free (last_misses (chain next head free)
      (whole.free_apart first)) in
      let goes_on : chain next' (walk next' first c) (suc free) ≡ walk next first c ∷ chain next head free =
      ap (λ m. chain next' m (suc free)) f ∙ ap (λ m. walk next first c ∷ chain next' m free) h ∙ ap (λ ns. walk next first c ∷ ns) k in
      ap (chain next' first) e ∙ chain_add next' first c (suc free) ∙ ap (λ ns. ns ++ chain next' (walk next' first c) (suc free)) g
      ∙ ap (λ ns. chain next first c ++ ns) goes_on ∙ sym (ap (λ ns. ns ++ chain next head free) here
      ∙ append_assoc (chain next first c) (walk next first c ∷ []) (chain next head free))

  pub whole_given : first < length counts → IsWhole (set next (walk next first c) head) (set counts first 0) first (free + suc c) total
  whole_given at =
      let next' : List ℕ = set next (walk next first c) head in
      let own : List ℕ = chain_from next counts first in
      let frees : List ℕ = chain next head free in
      whole_set next next' counts head first free (free + suc c) first 0 total whole at (length-set next (walk next first c) head ∙ whole.links) keeps
      tt tt
      (subst (Below total) (sym given) (Below_append total own frees (whole.below first) whole.free_below))
      (subst Differ (sym given) (Differ_append own frees (whole.differ first) whole.free_differ (whole.free_apart first)))
      tt
      (λ n _. Apart_nil (chain_from next counts n))
      (λ n other. subst (Apart (chain_from next counts n)) (sym given) (Apart_append (chain_from next counts n) own frees (whole.apart n first other)
      (whole.free_apart n)))
      (omega (arith, has))

  pub seen_given : (blocks : List (List ℕ)) → first < length counts
      → chains_from blocks (set next (walk next first c) head) 0 (set counts first 0) ≡ set (chains_from blocks next 0 counts) first []
  seen_given blocks at = chains_set blocks blocks next (set next (walk next first c) head) counts first 0 [] at (λ n other. ap (contents blocks)
      (keeps n other)) refl

-- what was taken belongs to the pool, and names its bytes
pub some_blocks : (len : ℕ) → 1 ≤ blocks_for len
some_blocks len = le-max_right (div_ceil len 64) 1

pub blocks_hold : (len : ℕ) → len ≤ 64 * blocks_for len
blocks_hold len =
    let enough : len ≤ (div_ceil len 64) * 64 = (div_ceil_times len 64 (omega arith)).0 in
    let most : div_ceil len 64 ≤ blocks_for len = le-max_left (div_ceil len 64) 1 in
    omega (arith, enough, most)

pub belongs_taken : (old new : PoolState) (item : Ref) (bytes : List ℕ) → item.first < length old.chains → item.len ≡ length bytes
    → new ≡ with_bytes old item.first bytes
    → Belongs new item
belongs_taken old new item bytes at len is =
    let need : ℕ = blocks_for (length bytes) in
    let P : PoolState → Type 0 = λ p. Belongs p item in
    subst P (sym is) (ap length (get_or-set_same old.chains item.first (laid_out need bytes) [] at) ∙ length_laid_out need bytes ∙ sym (ap blocks_for len))

pub bytes_taken : (old new : PoolState) (item : Ref) (bytes : List ℕ) → item.first < length old.chains → item.len ≡ length bytes
    → new ≡ with_bytes old item.first bytes
    → bytes_of new item ≡ bytes
bytes_taken old new item bytes at len is =
    let need : ℕ = blocks_for (length bytes) in
    let P : PoolState → Type 0 = λ p. bytes_of p item ≡ bytes in
    subst P (sym is) (ap (λ bs. take item.len (concat bs)) (get_or-set_same old.chains item.first (laid_out need bytes) [] at)
    ∙ ap (λ n. take n (concat (laid_out need bytes))) len ∙ bytes_laid_out need bytes (blocks_hold (length bytes)))

-- what other references read
chain_other : (old : PoolState) (first : ℕ) (bytes : List (List ℕ)) (item : Ref) → item.first ≢ first
    → get_or (set old.chains first bytes) item.first [] ≡ chain_at old item.first
chain_other old first bytes item other = get_or-set_other old.chains first item.first bytes [] other

apart_fresh : (old : PoolState) (first : ℕ) (item : Ref) → chain_at old first ≡ [] → Belongs old item → item.first ≢ first
apart_fresh old first item fresh belongs same =
    let none : length (chain_at old item.first) ≡ 0 = ap (λ n. length (chain_at old n)) same ∙ ap length fresh in
    let no : ⊥ = omega (arith, none, belongs, some_blocks item.len) in
    no

pub kept_others : (old new : PoolState) (first free : ℕ) (bytes : List (List ℕ)) → new ≡ record { free = free; chains = set old.chains first bytes }
    → KeepsOthers first old new
kept_others old new first free bytes is item other belongs =
    let P : PoolState → Type 0 = λ p. Belongs p item × (bytes_of p item ≡ bytes_of old item) in
    let same : get_or (set old.chains first bytes) item.first [] ≡ chain_at old item.first = chain_other old first bytes item other in
    subst P (sym is) (ap length same ∙ belongs, ap (λ bs. take item.len (concat bs)) same)

pub kept_taken : (old new : PoolState) (first free : ℕ) (bytes : List (List ℕ)) → chain_at old first ≡ []
    → new ≡ record { free = free; chains = set old.chains first bytes } → Keeps old new
kept_taken old new first free bytes fresh is item belongs = kept_others old new first free bytes is item (apart_fresh old first item fresh belongs) belongs

-- how many blocks a reference that belongs to the pool has
pub count_of : (blocks : List (List ℕ)) (next counts : List ℕ) (free : ℕ) (pool : PoolState) (item : Ref)
    → record { free = free; chains = chains_from blocks next 0 counts } ≡ pool → Belongs pool item → get_or counts item.first 0 ≡ blocks_for item.len
count_of blocks next counts free pool item is belongs =
    let P : PoolState → Type 0 = λ p. Belongs p item in
    let before : length (get_or (chains_from blocks next 0 counts) item.first []) ≡ blocks_for item.len = subst P (sym is) belongs in
    sym (ap length (seen_at blocks next counts item.first) ∙ length_contents blocks (chain_from next counts item.first)
    ∙ length_chain next item.first (get_or counts item.first 0)) ∙ before

pub belongs_by : (blocks : List (List ℕ)) (next counts : List ℕ) (free : ℕ) (pool : PoolState) (item : Ref)
    → record { free = free; chains = chains_from blocks next 0 counts } ≡ pool → get_or counts item.first 0 ≡ blocks_for item.len → Belongs pool item
belongs_by blocks next counts free pool item is count =
    let P : PoolState → Type 0 = λ p. Belongs p item in
    subst P is (ap length (seen_at blocks next counts item.first) ∙ length_contents blocks (chain_from next counts item.first)
    ∙ length_chain next item.first (get_or counts item.first 0) ∙ count)

pub not_past : (blocks : List (List ℕ)) (next counts : List ℕ) (free : ℕ) (pool : PoolState) (item : Ref)
    → record { free = free; chains = chains_from blocks next 0 counts } ≡ pool → length counts ≤ item.first → Belongs pool item → ⊥
not_past blocks next counts free pool item is past belongs =
    let none : get_or counts item.first 0 ≡ 0 = get_or_past counts item.first 0 past in
    omega (arith, none, count_of blocks next counts free pool item is belongs, some_blocks item.len)

pub first_below : (next counts : List ℕ) (head free total first : ℕ) → IsWhole next counts head free total → 1 ≤ get_or counts first 0 → first < total
first_below next counts head free total first whole some =
    let e : get_or counts first 0 ≡ suc (get_or counts first 0 - 1) = omega arith in
    (subst (λ k. Below total (chain next first k)) e (whole.below first)).0

pub count_most : (next counts : List ℕ) (head free total first : ℕ) → IsWhole next counts head free total → first < length counts
    → free + get_or counts first 0 ≤ total
count_most next counts head free total first whole at =
    let changed : sum (set counts first 0) + get_or counts first 0 ≡ sum counts + 0 = sum_by-set (λ x. x) counts first 0 0 at in
    omega (arith, whole.all)

-- the slice that a `Vec` lends, as it is when it comes back
pub refill_all : (len : ℕ) (ws items : List (List ℕ)) → len ≡ length items → length ws ≡ length items → take len (ws ++ drop (length ws) items) ≡ ws
refill_all len ws items long same = take-append-le len ws (drop (length ws) items) (omega arith) ∙ take_all len ws (omega arith)

-- what a take writes, in blocks that were lent
pub record IsWritten (blocks new : List (List ℕ)) (next : List ℕ) (head count len : ℕ) (bytes : List ℕ) : Type 0 where
  pub is : new ≡ put_all blocks (chain next head count) (laid_out count bytes)
  pub long : length new ≡ length blocks
  pub kept : take len (new ++ drop (length new) blocks) ≡ new

pub written_in : (blocks lent_blocks new : List (List ℕ)) (next lent : List ℕ) (head count len : ℕ) (bytes : List ℕ) → len ≡ length blocks
    → new ≡ put_all lent_blocks (chain lent head count) (laid_out count bytes) → lent_blocks ≡ blocks → lent ≡ next
    → IsWritten blocks new next head count len bytes
written_in blocks lent_blocks new next lent head count len bytes size wrote same_blocks same =
    let is : new ≡ put_all blocks (chain next head count) (laid_out count bytes) =
    wrote ∙ ap (λ bs. put_all bs (chain lent head count) (laid_out count bytes)) same_blocks
    ∙ ap (λ ns. put_all blocks (chain ns head count) (laid_out count bytes)) same in
    let long : length new ≡ length blocks = ap length is ∙ length_put blocks (chain next head count) (laid_out count bytes) in
    record { is = is; long = long; kept = refill_all len new blocks size long }

-- the pool that a take leaves, as callers see it
pub pool_taken : (blocks blocks' : List (List ℕ)) (next counts : List ℕ) (head free count first : ℕ) (bytes : List ℕ) (pool : PoolState)
    → IsWhole next counts head free (length blocks) → record { free = free; chains = chains_from blocks next 0 counts } ≡ pool → 1 ≤ count → count ≤ free
    → first ≡ head → count ≡ blocks_for (length bytes) → blocks' ≡ put_all blocks (chain next head count) (laid_out count bytes)
    → record { free = free - count; chains = chains_from blocks' next 0 (set counts head count) } ≡ with_bytes pool first bytes
pool_taken blocks blocks' next counts head free count first bytes pool whole is some room at need written =
    let P : PoolState → Type 0 = λ p. record { free = free - count; chains = chains_from blocks' next 0 (set counts head count) } ≡ with_bytes p first bytes in
    let made : ℕ → List (List (List ℕ)) → PoolState = λ n cs. record { free = n; chains = cs } in
    let old : List (List (List ℕ)) = chains_from blocks next 0 counts in
    subst P is (ap (made (free - count)) (ap (λ bs. chains_from bs next 0 (set counts head count)) written
    ∙ seen_taken blocks next counts head free count bytes whole some room)
    ∙ ap (λ k. made (free - k) (set old head (laid_out k bytes))) need
    ∙ ap (λ n. made (free - blocks_for (length bytes)) (set old n (laid_out (blocks_for (length bytes)) bytes))) (sym at))

-- there is a free block where as many as some bytes need are free
pub some_free : (count free seen len : ℕ) → count ≡ blocks_for len → count ≤ seen → free ≡ seen → 1 ≤ free
some_free count free seen len need room same = omega (arith, need, some_blocks len, room, same)

pub fresh_taken : (blocks : List (List ℕ)) (next counts : List ℕ) (head free first : ℕ) (pool : PoolState)
    → IsWhole next counts head free (length blocks) → record { free = free; chains = chains_from blocks next 0 counts } ≡ pool → 1 ≤ free → first ≡ head
    → chain_at pool first ≡ []
fresh_taken blocks next counts head free first pool whole is some at =
    let P : PoolState → Type 0 = λ p. chain_at p first ≡ [] in
    let none : get_or counts head 0 ≡ 0 = none_at_head next head (get_or counts head 0) free some (whole.free_apart head) in
    subst P is (ap (λ n. get_or (chains_from blocks next 0 counts) n []) at ∙ seen_at blocks next counts head
    ∙ ap (λ k. contents blocks (chain next head k)) none)

pub size_taken : (blocks : List (List ℕ)) (next counts : List ℕ) (head free first : ℕ) (pool : PoolState)
    → IsWhole next counts head free (length blocks) → record { free = free; chains = chains_from blocks next 0 counts } ≡ pool → 1 ≤ free → first ≡ head
    → first < length pool.chains
size_taken blocks next counts head free first pool whole is some at =
    let P : PoolState → Type 0 = λ p. first < length p.chains in
    let long : length (chains_from blocks next 0 counts) ≡ length counts = length_chains_from blocks next 0 counts in
    subst P is (omega (arith, head_below next counts head free (length blocks) whole some, whole.counted, long, at))

-- what is known of a reference that belongs to the pool
pub record Owned (counts : List ℕ) (first len : ℕ) : Type 0 where
  pub count : get_or counts first 0 ≡ blocks_for len
  pub some : 1 ≤ get_or counts first 0
  pub inside : first < length counts

pub owned : (blocks : List (List ℕ)) (next counts : List ℕ) (head free first : ℕ) (pool : PoolState) (item : Ref)
    → IsWhole next counts head free (length blocks) → record { free = free; chains = chains_from blocks next 0 counts } ≡ pool → Belongs pool item
    → first ≡ item.first
    → Owned counts first item.len
owned blocks next counts head free first pool item whole is belongs at =
    let count : get_or counts first 0 ≡ blocks_for item.len = ap (λ n. get_or counts n 0) at ∙ count_of blocks next counts free pool item is belongs in
    let some : 1 ≤ get_or counts first 0 = omega (arith, count, some_blocks item.len) in
    record { count = count; some = some; inside = omega (arith, first_below next counts head free (length blocks) first whole some, whole.counted) }

-- and of the count that was read at its first block
pub record OwnedBy (counts : List ℕ) (first len k : ℕ) : Type 0 where
  pub own : Owned counts first len
  pub is : k ≡ get_or counts first 0
  pub has : get_or counts first 0 ≡ suc (k - 1)

pub owned_by : (counts : List ℕ) (first len k : ℕ) → Owned counts first len → k ≡ get_or counts first k → OwnedBy counts first len k
owned_by counts first len k own read =
    let is : k ≡ get_or counts first 0 = read ∙ get_or_default_zero counts first k own.inside in
    record { own = own; is = is; has = omega (arith, is, own.some) }

-- the pool that a give leaves, as callers see it
pub pool_given : (blocks : List (List ℕ)) (next counts : List ℕ) (head free first c : ℕ) (pool : PoolState) (item : Ref)
    → IsWhole next counts head free (length blocks) → record { free = free; chains = chains_from blocks next 0 counts } ≡ pool → first ≡ item.first
    → get_or counts first 0 ≡ suc c → get_or counts first 0 ≡ blocks_for item.len → first < length counts
    → record { free = free + suc c; chains = chains_from blocks (set next (walk next first c) head) 0 (set counts first 0) } ≡ without pool item
pool_given blocks next counts head free first c pool item whole is at has count inside =
    let made : ℕ → List (List (List ℕ)) → PoolState = λ n cs. record { free = n; chains = cs } in
    let old : List (List (List ℕ)) = chains_from blocks next 0 counts in
    let P : PoolState → Type 0 = λ p. record {
      free = free + suc c;
      chains = chains_from blocks (set next (walk next first c) head) 0
          (set counts first 0);
    } ≡ without p item in
    subst P is (ap (made (free + suc c)) (seen_given next counts head free (length blocks) first c whole has blocks inside)
    ∙ ap (λ k. made (free + k) (set old first [])) (sym has ∙ count)
    ∙ ap (λ n. made (free + blocks_for item.len) (set old n [])) at)

pub owned_inside : (blocks : List (List ℕ)) (next counts : List ℕ) (head free first len : ℕ) (pool : PoolState) (item : Ref)
    → IsWhole next counts head free (length blocks) → record { free = free; chains = chains_from blocks next 0 counts } ≡ pool → Belongs pool item
    → first ≡ item.first → len ≡ length counts → first < len
owned_inside blocks next counts head free first len pool item whole is belongs at long =
    omega (arith, (owned blocks next counts head free first pool item whole is belongs at).inside, long)

-- what is known once its first block and the count there were read, and its last block was walked to
pub owned_at : (blocks : List (List ℕ)) (next counts : List ℕ) (head free first k : ℕ) (pool : PoolState) (item : Ref)
    → IsWhole next counts head free (length blocks) → record { free = free; chains = chains_from blocks next 0 counts } ≡ pool → Belongs pool item
    → first ≡ item.first → k ≡ get_or counts first k → OwnedBy counts first item.len k
owned_at blocks next counts head free first k pool item whole is belongs at read =
    owned_by counts first item.len k (owned blocks next counts head free first pool item whole is belongs at) read

pub record EndsAt (next counts : List ℕ) (free first len k last : ℕ) : Type 0 where
  pub by : OwnedBy counts first len k
  pub last_is : last ≡ walk next first (k - 1)
  pub frees : free + k ≡ free + suc (k - 1)

pub ends_at : (next lent counts : List ℕ) (free first len k last : ℕ) → OwnedBy counts first len k → last ≡ walk lent first (k - 1) → lent ≡ next
    → EndsAt next counts free first len k last
ends_at next lent counts free first len k last by walked same = record {
  by = by;
  last_is = walked ∙ ap (λ ns. walk ns first (k - 1)) same;
  frees = omega (arith, by.is, by.own.some);
}

pub whole_given_at : (next counts : List ℕ) (head free total first len k last : ℕ) → IsWhole next counts head free total
    → EndsAt next counts free first len k last → IsWhole (set next last head) (set counts first 0) first (free + k) total
whole_given_at next counts head free total first len k last whole ends =
    subst (λ n. IsWhole (set next n head) (set counts first 0) first (free + k) total) (sym ends.last_is)
    (subst (λ f. IsWhole (set next (walk next first (k - 1)) head) (set counts first 0) first f total) (sym ends.frees)
    (whole_given next counts head free total first (k - 1) whole ends.by.has ends.by.own.inside))

pub pool_given_at : (blocks : List (List ℕ)) (next counts : List ℕ) (head free first k last : ℕ) (pool : PoolState) (item : Ref)
    → IsWhole next counts head free (length blocks) → record { free = free; chains = chains_from blocks next 0 counts } ≡ pool → first ≡ item.first
    → EndsAt next counts free first item.len k last
    → record { free = free + k; chains = chains_from blocks (set next last head) 0 (set counts first 0) } ≡ without pool item
pool_given_at blocks next counts head free first k last pool item whole is at ends =
    let made : ℕ → ℕ → PoolState = λ n f. record { free = f; chains = chains_from blocks (set next n head) 0 (set counts first 0) } in
    ap (λ n. made n (free + k)) ends.last_is ∙ ap (made (walk next first (k - 1))) ends.frees
    ∙ pool_given blocks next counts head free first (k - 1) pool item whole is at ends.by.has ends.by.own.count ends.by.own.inside

-- the bytes that are read
pub bytes_read : (blocks : List (List ℕ)) (next counts : List ℕ) (free first count : ℕ) (pool : PoolState) (item : Ref)
    → record { free = free; chains = chains_from blocks next 0 counts } ≡ pool → first ≡ item.first → count ≡ get_or counts first 0
    → take item.len (concat (contents blocks (chain next first count))) ≡ bytes_of pool item
bytes_read blocks next counts free first count pool item is at counted =
    let P : PoolState → Type 0 = λ p. take item.len (concat (contents blocks (chain next first count))) ≡ bytes_of p item in
    subst P is (ap (λ k. take item.len (concat (contents blocks (chain next first k)))) counted
    ∙ ap (λ n. take item.len (concat (contents blocks (chain_from next counts n)))) at
    ∙ sym (ap (λ bs. take item.len (concat bs)) (seen_at blocks next counts item.first)))

-- a new pool
get_or_following : (n count i : ℕ) → i < count → get_or (numbers_from n count) i 0 ≡ n + i
get_or_following n zero i h = let no : ⊥ = omega (arith, h) in absurd no
get_or_following n (suc count) zero h = omega arith
get_or_following n (suc count) (suc i) h =
    let e : n + 1 + i ≡ n + suc i = omega arith in
    get_or_following (n + 1) count i (omega (arith, h)) ∙ e

chain_following : (total first count : ℕ) → first + count ≤ total → chain (numbers_from 1 total) first count ≡ numbers_from first count
chain_following total first zero h = refl
chain_following total first (suc count) h =
    let next : List ℕ = numbers_from 1 total in
    let e : 1 + first ≡ first + 1 = omega arith in
    let link : get_or next first 0 ≡ first + 1 = get_or_following 1 total first (omega (arith, h)) ∙ e in
    ap (λ m. first ∷ chain next m count) link ∙ ap (λ ms. first ∷ ms) (chain_following total (first + 1) count (omega (arith, h)))

following_below : (total first count : ℕ) → first + count ≤ total → Below total (numbers_from first count)
following_below total first zero h = tt
following_below total first (suc count) h = (omega (arith, h), following_below total (first + 1) count (omega (arith, h)))

following_misses : (n first count : ℕ) → n < first → Misses n (numbers_from first count)
following_misses n first zero h = tt
following_misses n first (suc count) h = (omega (arith, h), following_misses n (first + 1) count (omega (arith, h)))

following_differ : (first count : ℕ) → Differ (numbers_from first count)
following_differ first zero = tt
following_differ first (suc count) = (following_misses first (first + 1) count (omega arith), following_differ (first + 1) count)

get_or_zeros : (total n : ℕ) → get_or (replicate {A = ℕ} total 0) n 0 ≡ 0
get_or_zeros zero n = refl
get_or_zeros (suc total) zero = refl
get_or_zeros (suc total) (suc n) = get_or_zeros total n

sum_zeros : (total : ℕ) → sum (replicate total 0) ≡ 0
sum_zeros total = sum_by-replicate (λ x. x) total 0 ∙ mul-zero total

chains_new : (blocks : List (List ℕ)) (next : List ℕ) (n total : ℕ) → chains_from blocks next n (replicate total 0) ≡ replicate total []
chains_new blocks next n zero = refl
chains_new blocks next n (suc total) = ap (λ cs. [] ∷ cs) (chains_new blocks next (n + 1) total)

pub whole_new : (total : ℕ) → total < 2 ^ 32 → IsWhole (numbers_from 1 total) (replicate total 0) 0 total total
whole_new total small =
    let next : List ℕ = numbers_from 1 total in
    let counts : List ℕ = replicate total 0 in
    let frees : chain next 0 total ≡ numbers_from 0 total = chain_following total 0 total (omega arith) in
    let none : (n : ℕ) → chain_from next counts n ≡ [] = λ n. ap (chain next n) (get_or_zeros total n) in
    record {
      small = small;
      links = length_numbers_from 1 total;
      counted = length-replicate total 0;
      free_below = subst (Below total) (sym frees) (following_below total 0 total (omega arith));
      free_differ = subst Differ (sym frees) (following_differ 0 total);
      below = λ n. subst (Below total) (sym (none n)) tt;
      differ = λ n. subst Differ (sym (none n)) tt;
      apart = λ n m _. subst (λ ms. Apart ms (chain_from next counts m)) (sym (none n)) tt;
      free_apart = λ n. subst (λ ms. Apart ms (chain next 0 total)) (sym (none n)) tt;
      all = omega (arith, sum_zeros total);
    }

pub pool_new : (blocks : List (List ℕ)) (next counts : List ℕ) (total : ℕ) → counts ≡ replicate total 0
    → record { free = total; chains = chains_from blocks next 0 counts } ≡ fresh_pool total
pool_new blocks next counts total zeros =
    let made : List (List (List ℕ)) → PoolState = λ cs. record { free = total; chains = cs } in
    ap made (ap (chains_from blocks next 0) zeros ∙ chains_new blocks next 0 total)

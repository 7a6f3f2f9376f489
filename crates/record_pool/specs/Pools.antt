-- What callers see of a pool: the bytes of each reference, and how many blocks are free.
use Rattle.std.specs.Prelude.{◌≡◌, ◌≢◌, ℕ, zero, suc, ◌+◌, ◌-◌, max, List, [], ◌∷◌, ◌++◌, length, get_or, set, take, drop, replicate}
use Rattle.std.specs.List.{concat}
use Rattle.std.specs.Int.{div_ceil}
use Rattle.record_pool.specs.declared.no_room.NoRoom.{NoRoom}

-- how many blocks are free, and at each block's number the bytes of the blocks of the reference that begins there; none where none does
pub record PoolState : Type 0 where
  pub free : ℕ
  pub chains : List (List (List ℕ))

-- a reference: its first block, and how many bytes it names
pub record Ref : Type 0 where
  pub first : ℕ
  pub len : ℕ

-- how many blocks so many bytes need: at least one
abbrev pub blocks_for : ℕ → ℕ
blocks_for len = max (div_ceil len 64) 1

-- the bytes of the blocks of the reference that begins at a block
abbrev pub chain_at : PoolState → ℕ → List (List ℕ)
chain_at pool first = get_or pool.chains first []

-- the reference belongs to the pool, which has as many blocks for it as it needs
abbrev pub Belongs : PoolState → Ref → Type 0
Belongs pool item = length (chain_at pool item.first) ≡ blocks_for item.len

-- the bytes that a reference names
abbrev pub bytes_of : PoolState → Ref → List ℕ
bytes_of pool item = take item.len (concat (chain_at pool item.first))

-- a block that begins with these bytes, and has zeros after them
abbrev pub whole_block : List ℕ → List ℕ
whole_block part = part ++ replicate (64 - length part) 0

-- bytes, laid out in so many blocks
abbrev pub laid_out : ℕ → List ℕ → List (List ℕ)
laid_out zero bytes = []
laid_out (suc count) bytes = whole_block (take 64 bytes) ∷ laid_out count (drop 64 bytes)

-- a pool of so many blocks, all free
abbrev pub fresh_pool : ℕ → PoolState
fresh_pool blocks = record { free = blocks; chains = replicate blocks [] }

-- the pool with these bytes from this block on: it has as many fewer free blocks as they need
abbrev pub with_bytes : PoolState → ℕ → List ℕ → PoolState
with_bytes pool first bytes = let need = blocks_for (length bytes) in
    record { free = pool.free - need; chains = set pool.chains first (laid_out need bytes) }

-- the pool without a reference, whose blocks are free
abbrev pub without : PoolState → Ref → PoolState
without pool item = record { free = pool.free + blocks_for item.len; chains = set pool.chains item.first [] }

-- what is answered where more blocks are needed than are free
abbrev pub no_room : PoolState → List ℕ → NoRoom
no_room pool bytes = record { free = pool.free; need = blocks_for (length bytes) }

-- every reference of the earlier pool belongs to the later one, and names the same bytes
abbrev pub Keeps : PoolState → PoolState → Type 0
Keeps old new = (item : Ref) → Belongs old item → Belongs new item × (bytes_of new item ≡ bytes_of old item)

-- so does every one but those that begin at this block
abbrev pub KeepsOthers : ℕ → PoolState → PoolState → Type 0
KeepsOthers first old new = (item : Ref) → item.first ≢ first → Belongs old item → Belongs new item × (bytes_of new item ≡ bytes_of old item)

-- The store of keys and values: at most 32 keys, set, read and deleted.
use Rattle.std.specs.Prelude.{ℕ, Bool, ◌&&◌, not, nat_le, List, [], ◌++◌, Option, Some, None, if◌then◌else◌, codes, decimal}
use Rattle.std.specs.Option.{unwrap_or}
use Rattle.std.specs.FinMap as entries
use Rattle.record_codec.specs.declared.record.Record.{Record}
use Rattle.record_codec.specs.declared.record.Record.TheVariants.{Data, Noop}
use Rattle.app_law.specs.declared.kv_order.KvOrder.{KvOrder}
use Rattle.app_law.specs.declared.kv_order.KvOrder.TheVariants.{Set, Get, Del}
use Rattle.app_law.specs.declared.kv.KvUndo.{KvUndo}
use Rattle.app_law.specs.declared.kv.KvUndo.TheVariants.{Unchanged, Was}
use Rattle.app_law.specs.KvOrders.{kv_order_of}
use Rattle.app_law.specs.Words.{words}
pub use Rattle.app_law.specs.KvStates.{KvState}

-- the key is new, and 32 are there
abbrev pub is_full_for : KvState → List ℕ → Bool
is_full_for kv key = not (entries.contains_key kv key) && nat_le 32 (entries.len kv)

-- the key with this value, unless the store is full
abbrev pub with_value : KvState → List ℕ → List ℕ → KvState
with_value kv key value = if is_full_for kv key then kv else entries.insert kv key value

-- the store after a body that may ask for something
abbrev pub kv_after : KvState → Option KvOrder → KvState
kv_after kv (Some (Set key value)) = with_value kv key value
kv_after kv (Some (Get key)) = kv
kv_after kv (Some (Del key)) = entries.remove kv key
kv_after kv None = kv

abbrev pub kv_answer : KvState → Option KvOrder → List ℕ
kv_answer kv (Some (Set key value)) = if is_full_for kv key then codes "full" else codes "ok"
kv_answer kv (Some (Get key)) = unwrap_or (entries.get kv key) (codes "-")
kv_answer kv (Some (Del key)) = if entries.contains_key kv key then codes "ok" else codes "-"
kv_answer kv None = codes "?"

abbrev pub kv_next : KvState → Record → KvState
kv_next kv (Data client number body) = kv_after kv (kv_order_of (words body))
kv_next kv Noop = kv

abbrev pub kv_output : KvState → Record → List ℕ
kv_output kv (Data client number body) = kv_answer kv (kv_order_of (words body)) ++ codes "\n"
kv_output kv Noop = []

abbrev pub kv_shown : KvState → List ℕ
kv_shown kv = codes "keys " ++ decimal (entries.len kv)

-- the store once a key has again what it had
abbrev pub kv_restored : KvUndo → KvState → KvState
kv_restored Unchanged kv = kv
kv_restored (Was key (Some value)) kv = with_value kv key value
kv_restored (Was key None) kv = entries.remove kv key

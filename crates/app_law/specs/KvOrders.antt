-- What the words of a body ask of the store.
use Rattle.std.specs.Prelude.{ℕ, List, [], ◌∷◌, Option, Some, None, if◌then◌else◌, codes}
use Rattle.std.specs.Str.{bytes_eq}
use Rattle.app_law.specs.declared.kv_order.KvOrder.{KvOrder}
use Rattle.app_law.specs.declared.kv_order.KvOrder.TheVariants.{Set, Get, Del}
use Rattle.app_law.specs.Words.{printable_in}

abbrev pub set_of : Option (List ℕ) → Option (List ℕ) → Option KvOrder
set_of (Some key) (Some value) = Some (Set key value)
set_of _ _ = None

abbrev pub get_of : Option (List ℕ) → Option KvOrder
get_of (Some key) = Some (Get key)
get_of None = None

abbrev pub del_of : Option (List ℕ) → Option KvOrder
del_of (Some key) = Some (Del key)
del_of None = None

-- what words ask of the store: `set K V`, `get K` or `del K`
abbrev pub kv_order_of : List (List ℕ) → Option KvOrder
kv_order_of (verb ∷ key ∷ value ∷ []) =
    if bytes_eq verb (codes "set") then set_of (printable_in 8 key) (printable_in 32 value) else None
kv_order_of (verb ∷ key ∷ []) =
    if bytes_eq verb (codes "get") then get_of (printable_in 8 key)
    else if bytes_eq verb (codes "del") then del_of (printable_in 8 key)
    else None
kv_order_of _ = None

-- The store's entries as the code keeps them, read as keys with values.
use Rattle.std.specs.Prelude.{ℕ, List, [], ◌∷◌, map, Option, Some, None, if◌then◌else◌}
use Rattle.std.specs.Str.{bytes_eq}
use Rattle.app_law.specs.declared.kv.KvEntry.{KvEntry}

-- entries as pairs of a key and its value
abbrev pub pairs_of : List KvEntry → List (List ℕ × List ℕ)
pairs_of entries = map (λ e. (e.key, e.value)) entries

-- the value of the first entry of a key
abbrev pub value_under : List ℕ → List KvEntry → Option (List ℕ)
value_under key [] = None
value_under key (e ∷ entries) = if bytes_eq e.key key then Some e.value else value_under key entries

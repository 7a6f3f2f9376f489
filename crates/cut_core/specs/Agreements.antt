-- What a list of entries has agreed on, as a record, and its plain questions.
use Rattle.std.specs.Prelude.{ℕ, ◌+◌, ◌==◌, Bool, if◌then◌else◌, List, [], ◌∷◌, length, Option, Some, None}
use Rattle.std.specs.List.{list_any}
use Rattle.quota_table.specs.declared.rows.Row.{Row}
use Rattle.fix_ante.specs.declared.spots.Owner.{Owner}
use Rattle.fix_ante.specs.Windows.{Window}
use Rattle.fix_ante.specs.Locals.{locals_of}
pub use Rattle.cut_core.specs.declared.gone.Gone.{Gone}

-- what the entries so far have agreed on: how many they are, the owners of the covered positions with the number of
-- the window that each stood in, the current window with its covered rounds, the granted one, and the gone shards
pub record Agreement : Type 0 where
  pub slots : ℕ
  pub covered : List Owner
  pub numbers : List ℕ
  pub current : Window
  pub rounds : ℕ
  pub granted : Option Window
  pub gone : List Gone

-- before any entry
abbrev pub agreement_from : Window → Agreement
agreement_from first = record { slots = 0; covered = []; numbers = []; current = first; rounds = 0; granted = None; gone = [] }

-- how many of the owners are the shard's
abbrev pub count_of : ℕ → List Owner → ℕ
count_of shard owners = length (locals_of shard owners)

-- a shard is gone
abbrev pub is_gone : Agreement → ℕ → Bool
is_gone a shard = list_any (λ (g : Gone). g.shard == shard) a.gone

-- the first row whose shard is gone
abbrev pub gone_row : Agreement → List Row → Option ℕ
gone_row a [] = None
gone_row a (r ∷ rs) = if is_gone a r.shard then Some r.shard else gone_row a rs

-- one round of the current window is left
abbrev pub is_last_round : Agreement → Bool
is_last_round a = a.rounds + 1 == a.current.rounds

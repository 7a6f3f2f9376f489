-- Why an entry does not fit a state.
use Rattle.std.specs.Prelude.{ℕ, ◌==◌, Bool, not, nat_lt, if◌then◌else◌, List, length, Option, Some, None}
use Rattle.quota_table.specs.declared.rows.Row.{Row}
use Rattle.quota_table.specs.declared.entry.Entry.{Entry}
use Rattle.quota_table.specs.declared.entry.Entry.TheVariants.{Nothing, Cut, Table, Remove}
use Rattle.fix_ante.specs.Windows.{Window, has_row}
use Rattle.cut_core.specs.declared.effects.Reason.{Reason}
use Rattle.cut_core.specs.declared.effects.Reason.TheVariants.{WrongWindow, WrongRound, NoGrant, AlreadyGranted, GoneShard, NotARow, LastShard}
use Rattle.cut_core.specs.Agreements.{Agreement, is_last_round, gone_row}

-- the last round of a window is cut only where another is granted
abbrev pub grant_fault : Bool → Option Window → Option Reason
grant_fault last None = if last then Some NoGrant else None
grant_fault last (Some granted) = None

abbrev pub cut_fault : Agreement → ℕ → ℕ → Option Reason
cut_fault a window round =
    if not (window == a.current.number) then Some (WrongWindow a.current.number)
    else if not (round == a.rounds) then Some (WrongRound a.rounds)
    else grant_fault (is_last_round a) a.granted

abbrev pub gone_fault : Option ℕ → Option Reason
gone_fault None = None
gone_fault (Some shard) = Some (GoneShard shard)

-- a window is granted only where none is
abbrev pub granted_fault : Option Window → Option Reason → Option Reason
granted_fault None later = later
granted_fault (Some granted) later = Some (AlreadyGranted granted.number)

abbrev pub grant_reason : Agreement → ℕ → List Row → Option Reason
grant_reason a after rows =
    if not (after == a.current.number) then Some (WrongWindow a.current.number)
    else granted_fault a.granted (gone_fault (gone_row a rows))

abbrev pub remove_fault : Agreement → ℕ → ℕ → Option Reason
remove_fault a window shard =
    if not (window == a.current.number) then Some (WrongWindow a.current.number)
    else if not (has_row shard a.current.spots) then Some (NotARow shard)
    else if nat_lt 1 (length a.current.spots) then None
    else Some LastShard

-- why an entry doesn't fit, the first reason in the order of its kind; none where it fits
abbrev pub fault_of : Agreement → Entry → Option Reason
fault_of a Nothing = None
fault_of a (Cut window round) = cut_fault a window round
fault_of a (Table after rounds rows) = grant_reason a after rows
fault_of a (Remove window shard) = remove_fault a window shard

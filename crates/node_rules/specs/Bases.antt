-- What every node has, whatever its kind.
use Rattle.std.specs.Prelude.{ℕ, ◌+◌, ◌%◌, ◌^◌, max, min, nat_lt, Bool, if◌then◌else◌, List, [], ◌∷◌, ◌++◌, length, Option, Some, None}
use Rattle.fix_ante.specs.Windows.{Window, first_of}
use Rattle.cut_core.specs.Agreements.{Agreement}
use Rattle.cut_core.specs.Fold.{fold_of}
use Rattle.msg_wire.specs.Nodes.{is_sequencer, number_of}
use Rattle.node_rules.specs.Names.{NodeId, Config, Entry}
use Rattle.node_rules.specs.Names.nodes

-- the cluster and the node's name, the agreed entries that it knows, from slot 0 on, the greatest count of agreed
-- entries that it was told of, and how many ticks came since its last restart
pub record Base : Type 0 where
  pub cfg : Config
  pub me : NodeId
  pub known : List Entry
  pub seen : ℕ
  pub ticks : ℕ

-- a node that knows, was told and counted nothing
abbrev pub fresh_base : Config → NodeId → Base
fresh_base cfg me = record { cfg = cfg; me = me; known = []; seen = 0; ticks = 0 }

-- the cluster's first window
abbrev pub first_window : Config → Window
first_window cfg = first_of cfg.rounds cfg.table

-- what the entries that a node knows agree on
abbrev pub agreed_by : Base → Agreement
agreed_by base = fold_of (first_window base.cfg) base.known

-- there is a slot for one more entry
abbrev pub has_slot : Base → Bool
has_slot base = nat_lt (length base.known) 1000000

-- one more entry is known
abbrev pub knowing : Entry → Base → Base
knowing entry base = record base { known = base.known ++ entry ∷ [] }

-- the greatest count that it was told of
abbrev pub seeing : ℕ → Base → Base
seeing count base = record base { seen = max base.seen count }

-- one more tick came; the count of ticks stands still at 2^48
abbrev pub ticking : Base → Base
ticking base = record base { ticks = min (base.ticks + 1) (2 ^ 48) }

-- whom a tick asks: a sequencer asks the one after it, if there is another, any other node one sequencer after the other
abbrev pub asked_by : Base → Option NodeId
asked_by base =
    if is_sequencer base.me then
    (if nat_lt 1 base.cfg.seqs then Some (nodes.Seq ((number_of base.me + 1) % base.cfg.seqs)) else None)
    else Some (nodes.Seq (base.ticks % base.cfg.seqs))

-- what a restart leaves: the known entries
abbrev pub reset_base : Base → Base
reset_base base = record base { seen = 0; ticks = 0 }

-- A cut is good where it fits after some entries and both replicas of each row have its round; a sequencer wishes for good ones alone.
use Rattle.std.specs.Prelude.{◌≡◌, ℕ, ◌<◌, ◌≤◌, List, length, take, Contains, Option, Some, None}
use Rattle.std.specs.List.{AllByRecursion}
use Rattle.fix_ante.specs.declared.spots.Spot.{Spot}
use Rattle.fix_ante.specs.Windows.{round_end}
use Rattle.cut_core.specs.Agreements.{Agreement}
use Rattle.cut_core.specs.Reasons.{fault_of}
use Rattle.net_model.specs.Pasts.{Past}
use Rattle.node_rules.specs.Nodes.{Node}
use Rattle.seq_node.specs.States.{SlotAttempt, SequencerState}
use Rattle.runs.specs.Names.{NodeId, Config, Entry, Item}
use Rattle.runs.specs.Names.entries
use Rattle.runs.specs.Names.items
use Rattle.runs.specs.Kinds.{sequencer_after, items_at}
use Rattle.runs.specs.Known.{agreed_after}
use Rattle.safety_frame.specs.AgreedList.{agreed_list}
use Rattle.safety_logs.specs.Counting.{counted}

-- each row counts to the end of the round
abbrev pub RowsCount : (ℕ → ℕ) → ℕ → List Spot → Type 0
RowsCount counts round = AllByRecursion (λ (row : Spot). round_end row round ≤ counts row.shard)

-- where shards count so far; of another entry nothing is asked
abbrev pub IsGoodWhere : (ℕ → ℕ) → Agreement → Entry → Type 0
IsGoodWhere counts agreed (entries.Cut window round) = (fault_of agreed (entries.Cut window round) ≡ None) × RowsCount counts round agreed.current.spots
IsGoodWhere counts agreed entries.Nothing = Unit {0}
IsGoodWhere counts agreed (entries.Table after rounds rows) = Unit {0}
IsGoodWhere counts agreed (entries.Remove window shard) = Unit {0}

-- after these entries
abbrev pub IsGoodAfter : Config → Past → List Entry → Entry → Type 0
IsGoodAfter cfg past known entry = IsGoodWhere (λ shard. counted cfg (agreed_after cfg known) shard past) (agreed_after cfg known) entry

-- at a slot, after what is agreed below it
pub record IsGoodAt (cfg : Config) (past : Past) (slot : ℕ) (entry : Entry) : Type 0 where
  pub agreed : slot ≤ length (agreed_list cfg past)
  pub good : IsGoodAfter cfg past (take slot (agreed_list cfg past)) entry

-- ---- attempts

-- an attempt is for the slot after these entries, with a wish that is good there
abbrev pub IsGoodAttempt : (ℕ → ℕ) → Agreement → ℕ → Option SlotAttempt → Type 0
IsGoodAttempt counts agreed next None = Unit {0}
IsGoodAttempt counts agreed next (Some a) = (a.slot ≡ next) × IsGoodWhere counts agreed a.attempt.wish

abbrev pub HasGoodAttempt : Config → Past → Node SequencerState → Type 0
HasGoodAttempt cfg past n =
    IsGoodAttempt (λ shard. counted cfg (agreed_after cfg n.base.known) shard past) (agreed_after cfg n.base.known) (length n.base.known) n.own.attempt

abbrev pub WishesAreGood : Config → Past → Type 0
WishesAreGood cfg past = (number : ℕ) → number < cfg.seqs → HasGoodAttempt cfg past (sequencer_after cfg number past)

-- ---- with agreement: the wish of an attempt, and what is accepted, is good at its slot

abbrev pub IsGoodItem : Config → Past → Item → Type 0
IsGoodItem cfg past (items.Accepted slot ballot entry) = IsGoodAt cfg past slot entry
IsGoodItem cfg past _ = Unit {0}

pub record CutsAreGood (cfg : Config) (past : Past) : Type 0 where
  pub wishes : (number : ℕ) (a : SlotAttempt) → number < cfg.seqs → (sequencer_after cfg number past).own.attempt ≡ Some a
      → IsGoodAt cfg past a.slot a.attempt.wish
  pub accepted : (node : NodeId) (item : Item) → Contains (items_at cfg node past) item → IsGoodItem cfg past item

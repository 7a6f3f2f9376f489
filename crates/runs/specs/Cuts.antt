-- An accepted cut covers what both replicas hold.
use Rattle.std.specs.Prelude.{◌≡◌, ℕ, ◌≤◌, List, length, take, None}
use Rattle.std.specs.List.{AllByRecursion}
use Rattle.fix_ante.specs.declared.spots.Spot.{Spot}
use Rattle.fix_ante.specs.Windows.{round_end}
use Rattle.cut_core.specs.Reasons.{fault_of}
use Rattle.net_model.specs.Pasts.{Past, Throughout}
use Rattle.runs.specs.Names.{Config, Entry, Item}
use Rattle.runs.specs.Names.sides
use Rattle.runs.specs.Names.entries
use Rattle.runs.specs.Names.items
use Rattle.runs.specs.Kinds.{step_at}
use Rattle.runs.specs.Chosen.{AreChosen}
use Rattle.runs.specs.Known.{agreed_after, log_at}

-- both replicas hold these, and they hold the same
pub record HoldRound (cfg : Config) (past : Past) (round : ℕ) (row : Spot) : Type 0 where
  pub primary : round_end row round ≤ length (log_at cfg row.shard sides.Primary past)
  pub backup : round_end row round ≤ length (log_at cfg row.shard sides.Backup past)
  pub agree : take (round_end row round) (log_at cfg row.shard sides.Primary past) ≡ take (round_end row round) (log_at cfg row.shard sides.Backup past)

-- a cut that is accepted at a slot, after a past: it fits after the entries that are chosen there for the slots below, and
-- the replicas of each row hold its round there
pub record IsTrueCutAfter (cfg : Config) (past : Past) (slot window round : ℕ) (chosen : List Entry) : Type 0 where
  pub below : length chosen ≡ slot
  pub chosen_there : AreChosen cfg past chosen
  pub fits : fault_of (agreed_after cfg chosen) (entries.Cut window round) ≡ None
  pub covered : AllByRecursion (HoldRound cfg past round) (agreed_after cfg chosen).current.spots

abbrev pub IsTrueCut : Config → Past → ℕ → Entry → Type 0
IsTrueCut cfg past slot (entries.Cut window round) = (chosen : List Entry) × IsTrueCutAfter cfg past slot window round chosen
IsTrueCut cfg past slot entries.Nothing = Unit {0}
IsTrueCut cfg past slot (entries.Table after rounds rows) = Unit {0}
IsTrueCut cfg past slot (entries.Remove window shard) = Unit {0}

abbrev pub IsTrueAcceptance : Config → Past → Item → Type 0
IsTrueAcceptance cfg past (items.Accepted slot ballot entry) = IsTrueCut cfg past slot entry
IsTrueAcceptance cfg past _ = Unit {0}

-- of each item that an entry stores, judged at the past before the entry
abbrev pub CutsAreTrue : Config → Past → Type 0
CutsAreTrue cfg = Throughout (λ past e. AllByRecursion (IsTrueAcceptance cfg past) (step_at cfg e.node past e.event).stable)

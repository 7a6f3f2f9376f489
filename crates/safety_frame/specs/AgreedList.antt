-- The agreed list of a past, the longest that a sequencer knows; and what known entries agree on, in every run.
use Rattle.std.specs.Prelude.{ℕ, ◌≤◌, nat_lt, if◌then◌else◌, List, [], ◌∷◌, ◌++◌, length}
use Rattle.cut_core.specs.Consistency.{IsConsistent, IsContinuedBy}
use Rattle.net_model.specs.Pasts.{Past}
use Rattle.runs.specs.Names.{NodeId, Config, Entry}
use Rattle.runs.specs.Names.nodes
use Rattle.runs.specs.Runs.{IsPastOf}
use Rattle.runs.specs.Known.{known_at, agreed_after}
use Rattle.runs.specs.Marks.{IsPrefix}
use Rattle.runs.specs.Maps.{WasKnown, KnownMapsAgree}
use Rattle.safety_frame.specs.EveryRun.{OfEveryRun}

-- ---- the agreed list

-- what a node knows, where it is a sequencer
abbrev pub decided_at : Config → NodeId → Past → List Entry
decided_at cfg (nodes.Seq number) past = known_at cfg (nodes.Seq number) past
decided_at cfg (nodes.Shard shard side) past = []
decided_at cfg (nodes.Client number) past = []
decided_at cfg (nodes.Consumer number) past = []

abbrev pub longer_of : List Entry → List Entry → List Entry
longer_of agreed known = if nat_lt (length agreed) (length known) then known else agreed

abbrev pub agreed_list : Config → Past → List Entry
agreed_list cfg [] = []
agreed_list cfg (e ∷ past) = longer_of (agreed_list cfg past) (decided_at cfg e.node (e ∷ past))

-- a sequencer knows these entries, and maybe more after them
abbrev pub IsKnownToOne : Config → Past → List Entry → Type 0
IsKnownToOne cfg past entries = (number : ℕ) × IsPrefix entries (known_at cfg (nodes.Seq number) past)

-- a sequencer knows it, and none knows more, so that it is all that this one knows
pub record AgreedIsLongest (cfg : Config) (past : Past) : Type 0 where
  pub was_known : IsKnownToOne cfg past (agreed_list cfg past)
  pub longest : (number : ℕ) → length (known_at cfg (nodes.Seq number) past) ≤ length (agreed_list cfg past)

-- ---- what known entries agree on

pub record KnownFoldsHold (cfg : Config) (past : Past) : Type 0 where
  pub few : (known : List Entry) → WasKnown cfg past known → length known ≤ 1000000
  pub consistent : (known : List Entry) → WasKnown cfg past known → IsConsistent (agreed_after cfg known)
  pub continued : (known more : List Entry) → WasKnown cfg past (known ++ more) → IsContinuedBy (agreed_after cfg known) (agreed_after cfg (known ++ more))
  pub maps_agree : KnownMapsAgree cfg past

-- ---- of every run

abbrev pub AgreedListsAreLongest : Type 0
AgreedListsAreLongest = (cfg : Config) (past : Past) → IsPastOf cfg past → AgreedIsLongest cfg past

abbrev pub KnownFolds : Type 0
KnownFolds = OfEveryRun KnownFoldsHold

-- With which notices marks are shown: a replica and a consumer notice each removal as they learn it, before they show another mark.
use Rattle.std.specs.Prelude.{◌≡◌, ℕ, List, [], ◌∷◌, ◌++◌, Contains}
use Rattle.net_model.specs.Pasts.{Past, marks_of}
use Rattle.runs.specs.Names.{NodeId, Side, Config, Entry, Mark}
use Rattle.runs.specs.Names.nodes
use Rattle.runs.specs.Names.marks
use Rattle.runs.specs.Known.{known_at}
use Rattle.runs.specs.Marks.{EachAfter, notices}
use Rattle.safety_frame.specs.Gathered.{all_told}
use Rattle.safety_marks.specs.Removals.{firsts_of}

-- the node knew these entries as it showed the mark after the earlier ones, and with it all notices of the removals among them are shown
pub record ShownAs (cfg : Config) (past : Past) (node : NodeId) (earlier : List Mark) (mark : Mark) : Type 0 where
  pub known : List Entry
  pub told : Contains (all_told cfg past) (record { node = node; known = known; mark = mark })
  pub noticed : notices (earlier ++ mark ∷ []) ≡ firsts_of cfg known

-- a mark that neither confirms nor speculates nor notices
abbrev pub IsOther : Mark → Type 0
IsOther (marks.Confirm position rec) = ⊥
IsOther (marks.Apply position rec) = ⊥
IsOther (marks.Promise position rec) = ⊥
IsOther (marks.Notice first) = ⊥
IsOther _ = Unit {0}

-- of replicas and consumers; sequencers and clients show others alone
abbrev pub IsShown : Config → Past → NodeId → List Mark → Mark → Type 0
IsShown cfg past (nodes.Seq number) earlier mark = IsOther mark
IsShown cfg past (nodes.Shard shard side) earlier mark = ShownAs cfg past (nodes.Shard shard side) earlier mark
IsShown cfg past (nodes.Client number) earlier mark = IsOther mark
IsShown cfg past (nodes.Consumer number) earlier mark = ShownAs cfg past (nodes.Consumer number) earlier mark

abbrev pub MarksAreShownAs : Config → Past → Type 0
MarksAreShownAs cfg past = (node : NodeId) → EachAfter (IsShown cfg past node) [] (marks_of node past)

-- ---- the notices

-- a node's notices are, in order, the first positions of the removals that it knows and that fitted
abbrev pub HasNoticedAll : Config → Past → NodeId → Type 0
HasNoticedAll cfg past node = notices (marks_of node past) ≡ firsts_of cfg (known_at cfg node past)

pub record NoticesAreRemovals (cfg : Config) (past : Past) : Type 0 where
  pub replicas : (shard : ℕ) (side : Side) → HasNoticedAll cfg past (nodes.Shard shard side)
  pub consumers : (number : ℕ) → HasNoticedAll cfg past (nodes.Consumer number)

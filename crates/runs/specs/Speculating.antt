-- Speculation holds and agrees, but for noticed removals.
use Rattle.std.specs.Prelude.{◌≡◌, ◌⊎◌, ℕ, ◌≤◌, List, [], ◌∷◌, ◌++◌, Contains}
use Rattle.std.specs.List.{AllByRecursion}
use Rattle.cut_core.specs.declared.effects.Effect.TheVariants.{Removed}
use Rattle.cut_core.specs.Effects.{effect_of}
use Rattle.net_model.specs.Pasts.{Past, Throughout, shown, marks_of}
use Rattle.runs.specs.Names.{NodeId, Config, Entry, Record, Mark, HistoryEntry}
use Rattle.runs.specs.Names.marks
use Rattle.runs.specs.Marks.{IsPrefix, EachAfter, IsConfirmed, IsSpeculated}
use Rattle.runs.specs.Known.{known_at, agreed_at}
use Rattle.runs.specs.OneLog.{IsOneLog}

-- the marks have a notice of a removal whose first failed position is at or below this one
abbrev pub HasNoticed : List Mark → ℕ → Type 0
HasNoticed shown position = (first : ℕ) × (first ≤ position) × Contains shown (marks.Notice first)

-- a confirmed record is what any node speculated at its position, or the confirming node noticed a removal before
abbrev pub IsAsSpeculated : Past → List Mark → Mark → Type 0
IsAsSpeculated past earlier (marks.Confirm position rec) = (other : Record) → IsSpeculated past position other → (other ≡ rec) ⊎ HasNoticed earlier position
IsAsSpeculated past earlier _ = Unit {0}

-- the node's known list has grown by this entry
abbrev pub HasLearned : Config → NodeId → Past → HistoryEntry → Entry → Type 0
HasLearned cfg node past e entry = known_at cfg node (e ∷ past) ≡ known_at cfg node past ++ entry ∷ []

-- a notice comes with a removal that fits, and names its first failed position
abbrev pub IsTrueNotice : Config → Past → HistoryEntry → Mark → Type 0
IsTrueNotice cfg past e (marks.Notice first) =
    (entry : Entry) × (shard : ℕ) × HasLearned cfg e.node past e entry × (effect_of (agreed_at cfg e.node past) entry ≡ Removed shard first)
IsTrueNotice cfg past e _ = Unit {0}

abbrev pub NoticesAreTrue : Config → Past → HistoryEntry → Type 0
NoticesAreTrue cfg past e = AllByRecursion (IsTrueNotice cfg past e) e.marks

pub record SpeculationHolds (cfg : Config) (past : Past) : Type 0 where
  pub as_speculated : (node : NodeId) → EachAfter (IsAsSpeculated past) [] (marks_of node past)
  pub notices_are_true : Throughout (NoticesAreTrue cfg) past

-- ---- two speculations

-- a node showed a mark after these earlier ones of its own
abbrev pub ShowsAfter : Past → NodeId → List Mark → Mark → Type 0
ShowsAfter past node earlier mark = IsPrefix (earlier ++ mark ∷ []) (marks_of node past)

-- it applied this record at this position, or told it as its position
abbrev pub SpeculatesAfter : Past → NodeId → List Mark → ℕ → Record → Type 0
SpeculatesAfter past node earlier position rec =
    ShowsAfter past node earlier (marks.Apply position rec) ⊎ ShowsAfter past node earlier (marks.Promise position rec)

-- two nodes, or one node twice, speculated one record at a position, or one of the two noticed a removal before
abbrev pub SpeculationAgrees : Past → Type 0
SpeculationAgrees past =
    (node another : NodeId) (earlier before : List Mark) (position : ℕ) (rec other : Record) →
    SpeculatesAfter past node earlier position rec → SpeculatesAfter past another before position other →
    (rec ≡ other) ⊎ (HasNoticed earlier position ⊎ HasNoticed before position)

-- ---- without a notice

-- a record that some node speculated or confirmed at a position
abbrev pub IsMarked : Past → ℕ → Record → Type 0
IsMarked past position rec = IsSpeculated past position rec ⊎ IsConfirmed past position rec

abbrev pub IsUnnoticed : Past → Type 0
IsUnnoticed past = (first : ℕ) → ¬ Contains (shown past) (marks.Notice first)

-- where no node noticed a removal, no position has two records, speculated or confirmed
abbrev pub OneRecordUnnoticed : Past → Type 0
OneRecordUnnoticed past =
    IsUnnoticed past → (position : ℕ) (rec other : Record) → IsMarked past position rec → IsMarked past position other → rec ≡ other

-- it follows from three of the laws
abbrev pub UnnoticedFollows : Type 0
UnnoticedFollows = (cfg : Config) (past : Past) → IsOneLog past → SpeculationHolds cfg past → SpeculationAgrees past → OneRecordUnnoticed past

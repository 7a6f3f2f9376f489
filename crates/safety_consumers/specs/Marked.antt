-- What a consumer's marks and items tell of what it has applied and confirmed.
use Rattle.std.specs.Prelude.{◌≡◌, ℕ, List, [], ◌++◌, map}
use Rattle.std.specs.List.{concat}
use Rattle.app_law.specs.AnyApps.{any_fresh}
use Rattle.net_model.specs.Pasts.{Past, marks_of}
use Rattle.runs.specs.Names.{Config, Record}
use Rattle.runs.specs.Names.nodes
use Rattle.runs.specs.Kinds.{consumer_after, items_at}
use Rattle.runs.specs.Marks.{IsCounted, EachAfter, confirmed_positions, confirmed_list, applied_log, outputs, kept_confirmations}
use Rattle.runs.specs.Consumers.{confirmed_count, outputs_from}
use Rattle.runs.specs.Outputs.{IsApplyAtEnd}

-- ---- marks

-- what they have applied is what they confirm, so many records, and then what the state has beyond; and each record was applied at the end
pub record MarksGiveApplied (cfg : Config) (consumer : ℕ) (past : Past) : Type 0 where
  pub confirmed : confirmed_count consumer past ≡ (consumer_after cfg consumer past).own.confirmed
  pub applied : applied_log consumer past ≡ confirmed_list consumer past ++ (consumer_after cfg consumer past).own.pending
  pub at_end : EachAfter IsApplyAtEnd [] (marks_of (nodes.Consumer consumer) past)

abbrev pub AppliedIsTheMarks : Config → Past → Type 0
AppliedIsTheMarks cfg past = (consumer : ℕ) → MarksGiveApplied cfg consumer past

-- they confirm the positions 0, 1, 2 and so on
abbrev pub ConfirmationsAreCounted : Config → Past → Type 0
ConfirmationsAreCounted cfg past = (consumer : ℕ) → IsCounted (confirmed_positions consumer past)

-- ---- items

-- the confirmed records that a consumer's vault keeps, and the output of each
abbrev pub kept_records : Config → ℕ → Past → List Record
kept_records cfg consumer past = map (λ c. c.0) (kept_confirmations (items_at cfg (nodes.Consumer consumer) past))

abbrev pub kept_outputs : Config → ℕ → Past → List (List ℕ)
kept_outputs cfg consumer past = map (λ c. c.1) (kept_confirmations (items_at cfg (nodes.Consumer consumer) past))

-- they are the confirmed list and its outputs, which are what went out
pub record ItemsGiveConfirmed (cfg : Config) (consumer : ℕ) (past : Past) : Type 0 where
  pub records : kept_records cfg consumer past ≡ confirmed_list consumer past
  pub written : kept_outputs cfg consumer past ≡ outputs_from (any_fresh cfg.app) (confirmed_list consumer past)
  pub shown : concat (outputs (marks_of (nodes.Consumer consumer) past)) ≡ concat (kept_outputs cfg consumer past)

abbrev pub ItemsAreConfirmed : Config → Past → Type 0
ItemsAreConfirmed cfg past = (consumer : ℕ) → ItemsGiveConfirmed cfg consumer past

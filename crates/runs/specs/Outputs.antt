-- A consumer's output is that of its confirmed list.
use Rattle.std.specs.Prelude.{◌≡◌, ℕ, List, [], map, length}
use Rattle.std.specs.List.{concat}
use Rattle.app_law.specs.declared.any_app.AnyApp.{AnyApp}
use Rattle.app_law.specs.AnyApps.{any_fresh, any_next, any_output, any_shown}
use Rattle.app_law.specs.Folds as folds
use Rattle.net_model.specs.Pasts.{Past, AfterEach, marks_of}
use Rattle.runs.specs.Names.{Config, Record, Mark}
use Rattle.runs.specs.Names.nodes
use Rattle.runs.specs.Names.marks
use Rattle.runs.specs.Kinds.{items_at}
use Rattle.runs.specs.Marks.{IsPrefix, EachAfter, confirmed_list, applied_by, applied_log, outputs, kept_confirmations}

-- ---- the cluster's application

-- its state after a log, from the fresh one on
abbrev pub app_after : Config → List Record → AnyApp
app_after cfg log = folds.fold_of any_next (any_fresh cfg.app) log

-- all that it writes for a log
abbrev pub output_after : Config → List Record → List ℕ
output_after cfg log = folds.outputs_of any_next any_output (any_fresh cfg.app) log

-- the text that it is shown as
abbrev pub shown_after : Config → List Record → List ℕ
shown_after cfg log = folds.shown_after any_next any_shown (any_fresh cfg.app) log

-- ---- the law

-- a record is applied at the end of the applied list
abbrev pub IsApplyAtEnd : List Mark → Mark → Type 0
IsApplyAtEnd earlier (marks.Apply position rec) = position ≡ length (applied_by earlier)
IsApplyAtEnd earlier _ = Unit {0}

-- at one moment, for one consumer: its confirmed list begins its applied one, and is what its vault keeps; and what came
-- out, and what the vault keeps as output, are the outputs of the confirmed list
pub record OutputIsOfConfirmed (cfg : Config) (consumer : ℕ) (past : Past) : Type 0 where
  pub applied : IsPrefix (confirmed_list consumer past) (applied_log consumer past)
  pub shown : concat (outputs (marks_of (nodes.Consumer consumer) past)) ≡ output_after cfg (confirmed_list consumer past)
  pub kept : map (λ c. c.0) (kept_confirmations (items_at cfg (nodes.Consumer consumer) past)) ≡ confirmed_list consumer past
  pub kept_output : concat (map (λ c. c.1) (kept_confirmations (items_at cfg (nodes.Consumer consumer) past))) ≡ output_after cfg (confirmed_list consumer past)

pub record OutputsFollowConfirmed (cfg : Config) (past : Past) : Type 0 where
  pub at_end : (consumer : ℕ) → EachAfter IsApplyAtEnd [] (marks_of (nodes.Consumer consumer) past)
  pub outputs : (consumer : ℕ) → AfterEach (OutputIsOfConfirmed cfg consumer) past

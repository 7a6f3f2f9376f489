-- What a consumer's view has shown of the consumer's steps.
use Rattle.std.specs.Prelude.{◌≡◌, ℕ, ◌<◌, ◌≤◌, Bool, false, List, length, drop, Option, Some}
use Rattle.view_cell.specs.declared.look.Look.{Look}
use Rattle.view_cell.specs.Ends.{Showing, showing_next}
use Rattle.net_model.specs.declared.journal.Stamped.{Stamped}
use Rattle.cluster_crew.specs.declared.marks.Counts.{Counts}
use Rattle.net_model.specs.declared.viewed.View.{View}
use Rattle.cluster_crew.specs.Marks.{no_marks, counts_in, with_steps}

pub record OnShow : Type 0 where
  pub published : Showing
  pub steps : ℕ  -- how many steps of the consumer's journal were shown
  pub wanting : Bool  -- whether nothing is shown any more, since memory was wanted

abbrev pub on_show : Showing → ℕ → Bool → OnShow
on_show published steps wanting = record { published = published; steps = steps; wanting = wanting }

-- a view with counts
abbrev pub look_of : Counts → View → Look
look_of c v = record { ops = c.ops; epoch = c.epoch; applied = v.applied; confirmed = v.confirmed; shown = v.shown }

-- a view is published with counts, where these have marks that no look told
pub record Publishes (view : Option View) (c : Counts) (before after : Showing) : Type 0 where
  pub cell : after.cell ≡ before.cell
  pub more : before.newest.ops < c.ops → (v : View) × (view ≡ Some v) × (after ≡ showing_next (look_of c v) before)
  pub none : c.ops ≤ before.newest.ops → after ≡ before

-- all these steps were shown: those that weren't before, by this view
pub record ShowsSteps (view : Option View) (steps : List Stamped) (before after : OnShow) : Type 0 where
  pub count : after.steps ≡ length steps
  pub publishes : Publishes view (with_steps (counts_in before.published.newest) (drop before.steps steps)) before.published after.published

-- the same, unless memory was wanted
pub record Shows (view : Option View) (steps : List Stamped) (before after : OnShow) : Type 0 where
  pub cell : after.published.cell ≡ before.published.cell
  pub was : after.wanting ≡ false → before.wanting ≡ false
  pub shown : after.wanting ≡ false → ShowsSteps view steps before after

-- unless memory was wanted, the newest look counts the marks of all these steps
abbrev pub IsShown : List Stamped → OnShow → Type 0
IsShown steps s = s.wanting ≡ false → (s.steps ≡ length steps) × (counts_in s.published.newest ≡ with_steps no_marks steps)

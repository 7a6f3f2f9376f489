use Rattle.std.proofs.Common.{◌≡◌, ◌≤◌, ℕ, List, Some, None, sym, ap, subst, ◌∙◌, length, arith}
use Rattle.std.specs.List.{slice_get, slice_range}
use Rattle.net_model.specs.declared.columns.Columns.{Columns}
use Rattle.net_model.specs.declared.steps.KeptStep.{KeptStep}
use Rattle.net_model.specs.Names.{Message, Mark, HistoryEntry}
use Rattle.net_model.specs.inside.Kept.{event_in, entry_in, entries_of, sends_before, marks_before, IsStepIn, IsWhole}
use Rattle.net_model.proofs.Reading.{entry_of_step, no_entry_of_step, step_within}
use Rattle.net_model.proofs.columns.Columns.entry.Goals as goal

-- the step at an index, within the columns
within : (c : Columns) (index : ℕ) (s : KeptStep) (starts : ℕ × ℕ) → IsWhole c → slice_get c.steps index ≡ Some s
    → starts ≡ (sends_before 0 c.steps index, marks_before 0 c.steps index)
    → IsStepIn c starts.0 starts.1 s
within c index s starts w there e = subst (λ (p : ℕ × ℕ). IsStepIn c p.0 p.1 s) (sym e) (step_within c index s there w)

seen : (c : Columns) (index : ℕ) (s : KeptStep) (starts : ℕ × ℕ) (sends : List Message) (marks : List Mark) → slice_get c.steps index ≡ Some s
    → starts ≡ (sends_before 0 c.steps index, marks_before 0 c.steps index)
    → sends ≡ slice_range c.messages starts.0 s.sends_end → marks ≡ slice_range c.marks starts.1 s.marks_end
    → Some (record { node = s.node; event = event_in c s.taken; sends = sends; marks = marks }) ≡ slice_get (entries_of c) index
seen c index s starts sends marks there e m k =
    let all = entry_of_step c index s there in
    let from : starts.0 ≡ sends_before 0 c.steps index = ap (λ (p : ℕ × ℕ). p.0) e in
    let at : starts.1 ≡ marks_before 0 c.steps index = ap (λ (p : ℕ × ℕ). p.1) e in
    cc

pub returns-in_err-step : goal.returns-in_err-step
returns-in_err-step c =
    c.from_residual.ensures ∙ sym (no_entry_of_step c.args.self.now c.args.index (sym c.get.ensures ∙ c.in_err-step.was))

pub between-requires-clause-order : goal.between-requires-clause-order
between-requires-clause-order c =
    (within c.args.self.now c.args.index c.in_ok-step.step c.starts-sends_from.result c.requires.whole (sym c.get.ensures ∙ c.in_ok-step.was) c.starts-sends_from.ensures).sends_rise

pub between-requires-clause-within : goal.between-requires-clause-within
between-requires-clause-within c =
    let fits = (within c.args.self.now c.args.index c.in_ok-step.step c.starts-sends_from.result c.requires.whole (sym c.get.ensures ∙ c.in_ok-step.was) c.starts-sends_from.ensures).sends_within in
    subst (λ (ms : List Message). c.in_ok-step.step.sends_end ≤ length ms) (sym c.as_slice.ensures) fits

pub between-requires-2-clause-order : goal.between-requires-2-clause-order
between-requires-2-clause-order c =
    (within c.args.self.now c.args.index c.in_ok-step.step c.starts-sends_from.result c.requires.whole (sym c.get.ensures ∙ c.in_ok-step.was) c.starts-sends_from.ensures).marks_rise

pub between-requires-2-clause-within : goal.between-requires-2-clause-within
between-requires-2-clause-within c =
    let fits = (within c.args.self.now c.args.index c.in_ok-step.step c.starts-sends_from.result c.requires.whole (sym c.get.ensures ∙ c.in_ok-step.was) c.starts-sends_from.ensures).marks_within in
    subst (λ (ms : List Mark). c.in_ok-step.step.marks_end ≤ length ms) (sym c.as_slice-2.ensures) fits

pub invariant_of-result : goal.invariant_of-result
invariant_of-result c =
    (within c.args.self.now c.args.index c.in_ok-step.step c.starts-sends_from.result c.requires.whole (sym c.get.ensures ∙ c.in_ok-step.was) c.starts-sends_from.ensures).taken

pub returns : goal.returns
returns c =
    seen c.args.self.now c.args.index c.in_ok-step.step c.starts-sends_from.result c.between.result.now c.between-2.result.now
    (sym c.get.ensures ∙ c.in_ok-step.was) c.starts-sends_from.ensures
    (c.between.ensures ∙ ap (λ (ms : List Message). slice_range ms c.starts-sends_from.result.0 c.in_ok-step.step.sends_end) c.as_slice.ensures)
    (c.between-2.ensures ∙ ap (λ (ms : List Mark). slice_range ms c.starts-sends_from.result.1 c.in_ok-step.step.marks_end) c.as_slice-2.ensures)

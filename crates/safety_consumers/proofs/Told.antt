-- Of every run: what a consumer's marks and items tell of it is what its state has.
use Rattle.std.proofs.Common.{◌∙◌, ℕ, [], length, append-nil, refl, sym, ap, arith}
use Rattle.std.specs.List.{concat, range_with_len}
use Rattle.std.proofs.lemmas.List.FromFn.{length-range_with_len}
use Rattle.msg_wire.specs.Valid.{IsValidConfig}
use Rattle.net_model.specs.Pasts.{Past, marks_of}
use Rattle.runs.specs.Names.{Config}
use Rattle.runs.specs.Names.nodes
use Rattle.runs.specs.Runs.{IsPastOf}
use Rattle.runs.specs.Kinds.{consumer_after, items_at}
use Rattle.runs.specs.Marks.{outputs}
use Rattle.runs.specs.Consumers.{ConfirmedIsApplied}
use Rattle.safety_frame.proofs.Pasts.{other_shown, other_stored}
use Rattle.safety_frame.specs.EveryRun.{OfEveryRun}
use Rattle.safety_consumers.specs.Marked.{AppliedIsTheMarks, ConfirmationsAreCounted, ItemsAreConfirmed}
use Rattle.safety_consumers.proofs.EachConsumer.{Consumer, every_consumer, marks_more, items_more, sound_before}
use Rattle.safety_consumers.proofs.Telling.{Tells, of_lists, confirmed_long, applied_long}
use Rattle.safety_consumers.proofs.TellingSteps.{step_tells}

abbrev pub TellsOf : Config → Past → ℕ → Consumer → Type 0
TellsOf cfg past number n =
    Tells cfg.app (marks_of (nodes.Consumer number) past) (items_at cfg (nodes.Consumer number) past) [] n.own.confirmed n.own.base n.own.pending

pub tells : (cfg : Config) → IsValidConfig cfg → (past : Past) → IsPastOf cfg past → (number : ℕ) → TellsOf cfg past number (consumer_after cfg number past)
tells cfg valid =
    every_consumer cfg valid (TellsOf cfg)
    (record {
      starts = λ number. record { counted = refl; applied = refl; at_end = tt; after_all = refl; kept = refl; written = refl; out = refl };
      steps = λ e past number run same before.
          let node = nodes.Consumer number in
          let shown = marks_of node past in
          let stored = items_at cfg node past in
          let n = consumer_after cfg number past in
          of_lists (sym (marks_more cfg e past number run same)) (sym (items_more cfg e past number run same))
          (step_tells cfg.app shown stored n e.event run.0.valid (sound_before cfg e past number run same valid) before);
      stays = λ e past number n run other before.
          of_lists (sym (other_shown (nodes.Consumer number) e past other)) (sym (other_stored cfg (nodes.Consumer number) e past other)) before;
    })

pub applied_is_the_marks : OfEveryRun AppliedIsTheMarks
applied_is_the_marks cfg past valid run consumer =
    let is = tells cfg valid past run consumer in
    record { confirmed = confirmed_long is; applied = is.applied; at_end = is.at_end }

pub confirmations_are_counted : OfEveryRun ConfirmationsAreCounted
confirmations_are_counted cfg past valid run consumer =
    let is = tells cfg valid past run consumer in
    let count = (consumer_after cfg consumer past).own.confirmed in
    is.counted ∙ ap (λ (k : ℕ). range_with_len 0 k) (sym (ap length is.counted ∙ length-range_with_len 0 count))

pub items_are_confirmed : OfEveryRun ItemsAreConfirmed
items_are_confirmed cfg past valid run consumer =
    let is = tells cfg valid past run consumer in
    record { records = is.kept; written = is.written; shown = sym (append-nil (concat (outputs (marks_of (nodes.Consumer consumer) past)))) ∙ is.out }

pub confirmed_is_applied : OfEveryRun (λ cfg past. ConfirmedIsApplied past)
confirmed_is_applied cfg past valid run consumer =
    let is = tells cfg valid past run consumer in
    omega (arith, confirmed_long is, applied_long is)

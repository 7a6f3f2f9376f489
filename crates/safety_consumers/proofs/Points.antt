-- Of every run: a consumer's undos, held outputs and state are those of the records that its marks applied.
use Rattle.std.proofs.Common.{◌≡◌, ◌∙◌, ℕ, ◌+◌, ◌-◌, List, [], ◌∷◌, ◌++◌, map, length, take, get_or, append_assoc, append-nil, refl, sym, ap, arith}
use Rattle.std.specs.List.{concat, range_with_len}
use Rattle.std.proofs.lemmas.List.{length-append}
use Rattle.std.proofs.Math.Seq.{take-append_seam, get_or-append_seam}
use Rattle.app_law.specs.declared.any_app.AnyApp.{AnyApp}
use Rattle.app_law.specs.AnyApps.{any_fresh, any_next, any_output}
use Rattle.app_law.specs.Folds.{fold_of, outputs_of}
use Rattle.app_law.proofs.Folds.{fold_of_append}
use Rattle.msg_wire.specs.Valid.{IsValidConfig}
use Rattle.net_model.specs.Pasts.{Past, marks_of}
use Rattle.runs.specs.Names.{Config, Record}
use Rattle.runs.specs.Names.nodes
use Rattle.runs.specs.Names.records
use Rattle.runs.specs.Runs.{IsPastOf}
use Rattle.runs.specs.Kinds.{consumer_after}
use Rattle.runs.specs.Marks.{confirmed_list, applied_log, outputs}
use Rattle.runs.specs.Consumers.{positions_between, states_from, outputs_from, ConsumersHold}
use Rattle.runs.specs.Outputs.{OutputIsOfConfirmed, OutputsFollowConfirmed}
use Rattle.safety_frame.specs.EveryRun.{OfEveryRun}
use Rattle.safety_consumers.specs.Applications.{StateIsTheFold, PointsArePositions}
use Rattle.safety_consumers.proofs.EachConsumer.{after_each}
use Rattle.safety_consumers.proofs.Telling.{confirmed_long, applied_long}
use Rattle.safety_consumers.proofs.Told.{tells, confirmed_is_applied}
use Rattle.safety_consumers.proofs.Covered.{confirmed_is_covered}

-- ---- what is read off each state and record, one after another

abbrev each_from : {X : Type 0} → (AnyApp → Record → X) → AnyApp → List Record → List X
each_from f state [] = []
each_from f state (rec ∷ later) = f state rec ∷ each_from f (any_next state rec) later

states_each : (state : AnyApp) (log : List Record) → states_from state log ≡ each_from (λ s rec. s) state log
states_each state [] = refl
states_each state (rec ∷ log) = ap (λ l. state ∷ l) (states_each (any_next state rec) log)

outputs_each : (state : AnyApp) (log : List Record) → outputs_from state log ≡ each_from any_output state log
outputs_each state [] = refl
outputs_each state (rec ∷ log) = ap (λ l. any_output state rec ∷ l) (outputs_each (any_next state rec) log)

module _ {X : Type 0} (f : AnyApp → Record → X) (fresh : AnyApp) where
  -- what is read at a position of a log
  abbrev at : List Record → ℕ → X
  at log position = f (fold_of any_next fresh (take position log)) (get_or log position records.Noop)

  each_at : (front back : List Record)
      → each_from f (fold_of any_next fresh front) back ≡ map (at (front ++ back)) (range_with_len (length front) (length back))
  each_at front [] = refl
  each_at front (rec ∷ back) =
      let log = front ++ rec ∷ back in
      let state = fold_of any_next fresh front in
      let more = front ++ rec ∷ [] in
      let long : length more ≡ length front + 1 = length-append front (rec ∷ []) in
      let here : at log (length front) ≡ f state rec =
      ap (λ l. f (fold_of any_next fresh l) (get_or log (length front) records.Noop)) (take-append_seam front (rec ∷ back))
      ∙ ap (f state) (get_or-append_seam front rec back records.Noop) in
      let later : each_from f (any_next state rec) back ≡ map (at log) (range_with_len (length front + 1) (length back)) =
      ap (λ (s : AnyApp). each_from f s back) (sym (fold_of_append any_next fresh front (rec ∷ [])))
      ∙ (each_at more back
      ∙ (ap (λ l. map (at l) (range_with_len (length more) (length back))) (append_assoc front (rec ∷ []) back)
      ∙ ap (λ k. map (at log) (range_with_len k (length back))) long)) in
      ap (λ x. x ∷ each_from f (any_next state rec) back) (sym here) ∙ ap (λ l. at log (length front) ∷ l) later

-- ---- of every run

module _ (cfg : Config) (valid : IsValidConfig cfg) (past : Past) (run : IsPastOf cfg past) (consumer : ℕ) where
  of_positions : {X : Type 0} (f : AnyApp → Record → X)
      → each_from f (consumer_after cfg consumer past).own.base (consumer_after cfg consumer past).own.pending
      ≡ map (at f (any_fresh cfg.app) (applied_log consumer past)) (positions_between consumer past)
  of_positions f =
      let own = (consumer_after cfg consumer past).own in
      let fresh = any_fresh cfg.app in
      let log = confirmed_list consumer past in
      let is = tells cfg valid past run consumer in
      let count : length own.pending ≡ length (applied_log consumer past) - length log = omega (arith, confirmed_long is, applied_long is) in
      ap (λ (s : AnyApp). each_from f s own.pending) is.after_all
      ∙ (each_at f fresh log own.pending
      ∙ (ap (λ l. map (at f fresh l) (range_with_len (length log) (length own.pending))) (sym is.applied)
      ∙ ap (λ k. map (at f fresh (applied_log consumer past)) (range_with_len (length log) k)) count))

  fold_is : fold_of any_next (consumer_after cfg consumer past).own.base (consumer_after cfg consumer past).own.pending
      ≡ fold_of any_next (any_fresh cfg.app) (applied_log consumer past)
  fold_is =
      let own = (consumer_after cfg consumer past).own in
      let is = tells cfg valid past run consumer in
      ap (λ (s : AnyApp). fold_of any_next s own.pending) is.after_all
      ∙ (sym (fold_of_append any_next (any_fresh cfg.app) (confirmed_list consumer past) own.pending)
      ∙ ap (fold_of any_next (any_fresh cfg.app)) (sym is.applied))

pub points_are_positions : OfEveryRun PointsArePositions
points_are_positions cfg past valid run = record {
  undos = λ consumer.
      let own = (consumer_after cfg consumer past).own in
      states_each own.base own.pending ∙ of_positions cfg valid past run consumer (λ s rec. s);
  outputs = λ consumer.
      let own = (consumer_after cfg consumer past).own in
      outputs_each own.base own.pending ∙ of_positions cfg valid past run consumer any_output;
}

pub state_is_the_fold : OfEveryRun StateIsTheFold
state_is_the_fold cfg past valid run consumer = fold_is cfg valid past run consumer

pub consumers_hold : OfEveryRun ConsumersHold
consumers_hold cfg past valid run =
    let points = points_are_positions cfg past valid run in
    record {
      confirmed_is_covered = confirmed_is_covered cfg past valid run;
      confirmed_is_applied = confirmed_is_applied cfg past valid run;
      undos_are_positions = points.undos;
      outputs_are_positions = points.outputs;
    }

-- ---- output

joined : (state : AnyApp) (log : List Record) → concat (outputs_from state log) ≡ outputs_of any_next any_output state log
joined state [] = refl
joined state (rec ∷ log) = ap (λ l. any_output state rec ++ l) (joined (any_next state rec) log)

output_is_of_confirmed : (cfg : Config) → IsValidConfig cfg → (consumer : ℕ) (past : Past) → IsPastOf cfg past → OutputIsOfConfirmed cfg consumer past
output_is_of_confirmed cfg valid consumer past run =
    let is = tells cfg valid past run consumer in
    let written = ap concat is.written ∙ joined (any_fresh cfg.app) (confirmed_list consumer past) in
    record {
      applied = ((consumer_after cfg consumer past).own.pending, is.applied);
      shown = sym (append-nil (concat (outputs (marks_of (nodes.Consumer consumer) past)))) ∙ (is.out ∙ written);
      kept = is.kept;
      kept_output = written;
    }

pub outputs_follow_confirmed : OfEveryRun OutputsFollowConfirmed
outputs_follow_confirmed cfg past valid run = record {
  at_end = λ consumer. (tells cfg valid past run consumer).at_end;
  outputs = λ consumer. after_each cfg (OutputIsOfConfirmed cfg consumer) (output_is_of_confirmed cfg valid consumer) past run;
}

-- Of every run: a consumer's marks confirm the positions 0, 1, 2 and so on, as many as it has confirmed, and apply as many as it has applied.
use Rattle.std.proofs.Common.{◌≡◌, ◌∙◌, ℕ, length, length-append, sym, ap, arith}
use Rattle.std.specs.List.{range_with_len}
use Rattle.std.proofs.lemmas.List.{length-map}
use Rattle.net_model.specs.Pasts.{Past, marks_of}
use Rattle.consumer_node.specs.States.{applied_of}
use Rattle.runs.specs.Names.{Config, Record}
use Rattle.runs.specs.Names.nodes
use Rattle.runs.specs.Kinds.{consumer_after}
use Rattle.runs.specs.Marks.{confirmations, confirmed_positions, confirmed_list, applied_log}
use Rattle.safety_frame.specs.EveryRun.{OfEveryRun}
use Rattle.safety_consumers.proofs.Told.{applied_is_the_marks, confirmations_are_counted}

pub record AreCounted (cfg : Config) (past : Past) (number : ℕ) : Type 0 where
  pub confirmed : confirmed_positions number past ≡ range_with_len 0 (consumer_after cfg number past).own.confirmed
  pub applied : length (applied_log number past) ≡ applied_of (consumer_after cfg number past).own

pub are_counted : OfEveryRun (λ cfg past. (number : ℕ) → AreCounted cfg past number)
are_counted cfg past valid run number =
    let is = applied_is_the_marks cfg past valid run number in
    let own = (consumer_after cfg number past).own in
    let all = confirmations (marks_of (nodes.Consumer number) past) in
    let count : length (confirmed_positions number past) ≡ own.confirmed =
    length-map all (λ (c : ℕ × Record). c.0) ∙ (sym (length-map all (λ (c : ℕ × Record). c.1)) ∙ is.confirmed) in
    record {
      confirmed = confirmations_are_counted cfg past valid run number ∙ ap (range_with_len 0) count;
      applied = omega (arith, ap length is.applied, length-append (confirmed_list number past) own.pending, is.confirmed);
    }

-- Every run is truthful: by what marks tell, a confirmed record stands at a covered position of the agreed list.
use Rattle.std.proofs.Common.{◌≡◌, ℕ, List, Some}
use Rattle.std.specs.List.{slice_get}
use Rattle.std.proofs.lemmas.List.Elements.{Contains-push}
use Rattle.msg_wire.specs.Valid.{IsValidConfig}
use Rattle.net_model.specs.Pasts.{Past, marks_of, submissions_of}
use Rattle.runs.specs.Names.{Config, Record}
use Rattle.runs.specs.Names.nodes
use Rattle.runs.specs.Names.sides
use Rattle.runs.specs.Names.marks
use Rattle.runs.specs.Names.records
use Rattle.runs.specs.Runs.{IsPastOf}
use Rattle.runs.specs.Marks.{IsConfirmed}
use Rattle.runs.specs.Truth.{IsTruthful}
use Rattle.runs.proofs.Shown.{shown_by, prefix_holds}
use Rattle.safety_frame.specs.EveryRun.{OfEveryRun}
use Rattle.safety_frame.specs.Gathered.{ToldMark}
use Rattle.safety_frame.proofs.Gathered.{mark_told, told_known}
use Rattle.safety_frame.proofs.Lists.{index_stays}
use Rattle.safety_marks.proofs.Acks.{acked_is_counted}
use Rattle.safety_marks.proofs.MarksTell.{marks_tell}
use Rattle.safety_clients.specs.Homes.{bodies_at}
use Rattle.safety_clients.specs.Numbers.{StandsAt}
use Rattle.safety_clients.proofs.Submitting.{bodies_are_submitted}
use Rattle.safety_clients.proofs.Records.{held_are_of_a_home}
use Rattle.safety_clients.proofs.Numbers.{numbers_are_in_order}
use Rattle.safety_truth.proofs.Standing.{settled_stands, confirmed_covered}
use Rattle.safety_truth.proofs.TrueAcks.{acks_are_true}

module _ (cfg : Config) (past : Past) (valid : IsValidConfig cfg) (run : IsPastOf cfg past) where
  -- a confirmed record stands at its position
  stands : (position : ℕ) (rec : Record) → IsConfirmed past position rec → StandsAt cfg past position rec
  stands position rec confirmed =
      let mark = marks.Confirm position rec in
      let by = shown_by past mark confirmed in
      let told = mark_told cfg by.0 mark past (prefix_holds _ (marks_of by.0 past) mark by.2 (Contains-push by.1 mark)) in
      let x : ToldMark = record { node = by.0; known = told.0; mark = mark } in
      settled_stands cfg valid past run told.0 (by.0, told_known cfg x past told.1) position rec (marks_tell cfg past valid run x told.1)

  body_submitted : (position client number : ℕ) (body : List ℕ) → IsConfirmed past position (records.Data client number body)
      → slice_get (submissions_of (nodes.Client client) past) number ≡ Some body
  body_submitted position client number body confirmed =
      let at = stands position (records.Data client number body) confirmed in
      let stored = (held_are_of_a_home cfg past valid run client at.owner.shard).submitted at.owner.local number body at.held in
      index_stays (bodies_at cfg client past) (submissions_of (nodes.Client client) past) number body (bodies_are_submitted cfg past valid run client) stored

  is_truthful : IsTruthful past
  is_truthful =
      let numbers = numbers_are_in_order cfg past valid run in
      record {
        submitted = body_submitted;
        in_order = λ client position number body place other text one two.
            numbers.in_order client position number body place other text (stands position (records.Data client number body) one)
            (stands place (records.Data client other text) two);
        whole = λ consumer client. numbers.whole client _ (confirmed_covered cfg valid past run consumer);
        acked = acked_is_counted cfg past valid run;
        acks_are_true = acks_are_true cfg past valid run;
      }

pub truthful : OfEveryRun (λ cfg past. IsTruthful past)
truthful = is_truthful

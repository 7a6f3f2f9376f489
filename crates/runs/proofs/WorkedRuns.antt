-- The two worked runs of specs/WorkedRuns.antt follow the step tables, and the premises of the laws are met in them.
use Rattle.std.proofs.Common.{◌≡◌, ◌<◌, List, [], ◌∷◌, refl, inl, inr, arith}
use Rattle.std.specs.Prelude.{Contains}
use Rattle.std.specs.Fmt.{digits}
use Rattle.std.proofs.lemmas.List.Elements.{All-cons}
use Rattle.majority.specs.Ballots.{IsMajority}
use Rattle.majority.proofs.Lists.{IsDistinct_cons, IsDistinct_nil}
use Rattle.net_model.specs.Pasts.{Past, sent, shown}
use Rattle.spec_base.specs.Spelling.{IsValidNode}
use Rattle.msg_wire.specs.Valid.{IsNodeOf, IsValidWhat}
use Rattle.node_rules.specs.Examples.{single, pair, k0, five}
use Rattle.client_node.specs.States.{reach}
use Rattle.runs.specs.Names.{Config, Message, Mark}
use Rattle.runs.specs.Names.events
use Rattle.runs.specs.Names.marks
use Rattle.runs.specs.Names.sides
use Rattle.runs.specs.Kinds.{step_at}
use Rattle.runs.specs.Runs.{Follows, IsPastOf}
use Rattle.runs.specs.Chosen.{IsChosen, HasAccepted}
use Rattle.runs.specs.WorkedRuns as worked
use Rattle.runs.specs.WorkedRuns.{PremisesAreMet}
use Rattle.runs.proofs.FirstRun.{steps_are_a_run}
use Rattle.runs.proofs.Clashes.{no_notice}

-- a message that comes to its receiver, sent before at a place among all messages
taken : {cfg : Config} {past : Past} {message : Message} {sends : List Message} {shows : List Mark} → IsNodeOf cfg message.to
    → IsValidNode message.from → IsValidNode message.to → IsValidWhat message.what → Contains (sent past) message
    → sends ≡ (step_at cfg message.to past (events.Deliver message)).sends → shows ≡ (step_at cfg message.to past (events.Deliver message)).marks
    → Follows cfg past (worked.entry message.to (events.Deliver message) sends shows)
taken here from to what there said marked = record {
  within = here;
  valid = record { from = from; to = to; what = what };
  taken_there = tt;
  comes = (refl, there);
  sends = said;
  shows = marked;
}

-- ---- a record's whole way

granted_is_a_run : IsPastOf single worked.table_granted
granted_is_a_run = (
  taken (omega arith) (omega arith) (omega arith) (omega arith) (4, omega arith, refl) refl refl,
  (
    taken (omega arith) (omega arith) (omega arith) (omega arith) (2, omega arith, refl) refl refl,
    steps_are_a_run,
  ),
)

applied_is_a_run : IsPastOf single worked.record_applied
applied_is_a_run = (
  taken (omega arith) (omega arith) (omega arith) (omega arith, (omega arith, omega arith, omega arith)) (5, omega arith, refl) refl refl,
  (
    record { within = omega arith; valid = tt; taken_there = tt; comes = tt; sends = refl; shows = refl },
    granted_is_a_run,
  ),
)

-- the entry that comes before is a table, with its row
confirmed_is_a_run : IsPastOf single worked.record_confirmed
unfolding digits
confirmed_is_a_run = (
  taken (omega arith) (omega arith) (omega arith) (omega arith, omega arith, omega arith, (omega arith, omega arith)) (14, omega arith, refl) refl refl,
  (
    taken (omega arith) (omega arith) (omega arith)
        (omega arith, omega arith, omega arith, (omega arith, (omega arith, omega arith), record { some = omega arith; few = omega arith; within = refl; distinct = refl }))
        (10, omega arith, refl) refl refl,
    applied_is_a_run,
  ),
)

-- ---- a client's move

removed_is_a_run : IsPastOf pair worked.shard_removed
removed_is_a_run = (
  taken (omega arith) (omega arith) (omega arith) (omega arith, omega arith, omega arith, (omega arith, omega arith)) (0, omega arith, refl) refl refl,
  (
    record { within = omega arith; valid = omega arith; taken_there = refl; comes = tt; sends = refl; shows = refl },
    tt,
  ),
)

moved_is_a_run : IsPastOf pair worked.client_moved
unfolding reach
moved_is_a_run = (
  taken (omega arith) (omega arith) (omega arith) (omega arith) (8, omega arith, refl) refl refl,
  (
    taken (omega arith) (omega arith) (omega arith) (omega arith, omega arith) (6, omega arith, refl) refl refl,
    (
      taken (omega arith) (omega arith) (omega arith) (omega arith, omega arith, omega arith, (omega arith, omega arith)) (4, omega arith, refl) refl refl,
      removed_is_a_run,
    ),
  ),
)

taken_is_a_run : IsPastOf pair worked.record_taken
unfolding reach
taken_is_a_run = (
  taken (omega arith) (omega arith) (omega arith) (omega arith, omega arith, omega arith) (9, omega arith, refl) refl refl,
  (
    record { within = omega arith; valid = (omega arith, omega arith); taken_there = refl; comes = tt; sends = refl; shows = refl },
    moved_is_a_run,
  ),
)

copied_is_a_run : IsPastOf pair worked.record_copied
unfolding reach
copied_is_a_run = (
  taken (omega arith) (omega arith) (omega arith) (omega arith, (omega arith, omega arith, omega arith)) (10, omega arith, refl) refl refl,
  taken_is_a_run,
)

-- ---- the premises

-- the sequencer is a majority of one
one_of_one : IsMajority 1 (0 ∷ [])
one_of_one = record {
  within = All-cons (λ replica. replica < 1) 0 [] (omega arith) (λ k d h. absurd (omega (arith, h)));
  distinct = IsDistinct_cons 0 [] tt IsDistinct_nil;
  most = omega arith;
}

first_is_chosen : IsChosen single worked.record_confirmed 1 worked.first_round
unfolding digits
first_is_chosen =
    let voted : HasAccepted single worked.record_confirmed 1 0 worked.first_round 0 = (2, omega arith, refl) in
    (0, 0 ∷ [], one_of_one, All-cons (HasAccepted single worked.record_confirmed 1 0 worked.first_round) 0 [] voted (λ k d h. absurd (omega (arith, h))))

pub premises_are_met : PremisesAreMet
unfolding digits reach
premises_are_met = record {
  way_is_a_run = confirmed_is_a_run;
  move_is_a_run = copied_is_a_run;
  accepted = (2, omega arith, refl);
  chosen = first_is_chosen;
  known = refl;
  promised = inr ([], refl);
  applied = inl (marks.Confirm 0 five ∷ marks.Out (53 ∷ 10 ∷ []) ∷ [], refl);
  unnoticed = λ first. no_notice (shown worked.record_confirmed) first (refl, (refl, (refl, (refl, tt))));
  marked = inl (inl (1, omega arith, refl));
  reported = (2, omega arith, refl);
  replicated = (3, omega arith, refl);
  delivered = (5, omega arith, refl);
  covered = refl;
  begins = (sides.Primary, 0, 53 ∷ [], (0, omega arith, refl));
  in_turn = ([], ([], refl));
  goes = record { known = ([], refl); there = refl; gone = refl };
  has_record = (0, 53 ∷ [], refl);
  was_known = (k0, ([], refl));
  on_the_map = let below : 0 < 4 = omega arith in below;
  between = refl;
}

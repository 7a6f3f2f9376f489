-- What its own acceptor and the other sequencers have stored for an attempt that stands.
use Rattle.std.proofs.Common.{◌<◌, subst}
use Rattle.std.proofs.lemmas.List.Elements.{All-contains}
use Rattle.majority.specs.Votes.{HasVote}
use Rattle.majority.specs.Agreement.{AttemptStands}
use Rattle.safety_frame.specs.EveryRun.{OfEveryRun}
use Rattle.safety_agreement.specs.Heard.{AttemptsHavePromises}
use Rattle.safety_agreement.proofs.Heard.{promises_were_sent}
use Rattle.safety_agreement.specs.Attempts.{AttemptsArePromised, AttemptsAreUnvoted, AttemptsAreVoted}
use Rattle.safety_agreement.proofs.EverySlot.{slot_of}
use Rattle.safety_agreement.proofs.Reading.{stored, none_stored, bar_is, standing_is}

pub attempts_are_promised : OfEveryRun AttemptsArePromised
attempts_are_promised cfg past valid run number a low stands =
    let x = slot_of cfg valid a.slot past run in
    bar_is cfg past a.slot x.0 x.1 number a.attempt.ballot low (standing_is cfg past x.0 number a x.1 low stands).barred

pub attempts_are_unvoted : OfEveryRun AttemptsAreUnvoted
attempts_are_unvoted cfg past valid run number a low stands none =
    let x = slot_of cfg valid a.slot past run in
    let is = standing_is cfg past x.0 number a x.1 low stands in
    let quiet = subst (λ s. AttemptStands x.0.votes x.0.sent cfg.seqs a.attempt s) none is.stands in
    (quiet.0.above, λ other below. none_stored cfg past a.slot x.0 x.1 other a.attempt.ballot below (quiet.0.unvoted other))

pub attempts_are_voted : OfEveryRun AttemptsAreVoted
attempts_are_voted cfg past valid run number a low stands v sending =
    let x = slot_of cfg valid a.slot past run in
    let is = standing_is cfg past x.0 number a x.1 low stands in
    let votes = subst (λ s. AttemptStands x.0.votes x.0.sent cfg.seqs a.attempt s) sending is.stands in
    record {
      within = votes.within;
      distinct = votes.distinct;
      own = stored cfg past a.slot x.0 x.1 number a.attempt.ballot v low (subst (λ k. HasVote x.0.votes k a.attempt.ballot v) is.here votes.own);
      voted = λ other member. stored cfg past a.slot x.0 x.1 other a.attempt.ballot v
          (All-contains (λ k. k < cfg.seqs) a.attempt.acceptances other votes.within member) (votes.voted other member);
    }

pub attempts_have_promises : OfEveryRun AttemptsHavePromises
attempts_have_promises cfg past valid run number a low stands =
    let x = slot_of cfg valid a.slot past run in
    let is = standing_is cfg past x.0 number a x.1 low stands in
    record { within = is.within; distinct = is.distinct; promised = promises_were_sent cfg past valid run number a low stands }

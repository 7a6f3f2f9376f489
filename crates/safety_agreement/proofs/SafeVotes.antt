-- Below the ballot of a vote, no other value is chosen nor can be.
use Rattle.std.proofs.Common.{◌<◌}
use Rattle.std.proofs.lemmas.List.Elements.{All-contains}
use Rattle.safety_frame.specs.EveryRun.{OfEveryRun}
use Rattle.safety_agreement.specs.Votes.{SafeAtBallot}
use Rattle.safety_agreement.proofs.EverySlot.{slot_of}
use Rattle.safety_agreement.proofs.Reading.{voted, supports}

pub safe_at_ballot : OfEveryRun SafeAtBallot
safe_at_ballot cfg past valid run slot ballot number v low p lower below =
    let x = slot_of cfg valid slot past run in
    let quorum = x.1.sound.agreed.safe number ballot v (voted cfg past slot x.0 x.1 number ballot v low p) lower below in (
      quorum.0,
      quorum.1,
      λ member there. supports cfg past slot x.0 x.1 member lower v (All-contains (λ k. k < cfg.seqs) quorum.0 member quorum.1.within there)
          (quorum.2 member there),
    )

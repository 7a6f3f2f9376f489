-- A ballot of a slot has one value: what its owner voted.
use Rattle.std.proofs.Common.{◌%◌, refl}
use Rattle.majority.specs.Slot.{Accept, Accepted}
use Rattle.msg_wire.specs.Nodes.{number_of}
use Rattle.runs.specs.Names.whats
use Rattle.safety_frame.specs.EveryRun.{OfEveryRun}
use Rattle.safety_agreement.specs.Votes.{OneVotePerBallot, OwnersVoted, AcceptedsAreVotes}
use Rattle.safety_agreement.proofs.EverySlot.{slot_of}
use Rattle.safety_agreement.proofs.Reading.{owner_below, voted, stored, said_is}

pub one_vote_per_ballot : OfEveryRun OneVotePerBallot
one_vote_per_ballot cfg past valid run slot ballot number v w low p q =
    let x = slot_of cfg valid slot past run in
    x.1.sound.agreed.one_vote number ballot v w (voted cfg past slot x.0 x.1 number ballot v low p) (voted cfg past slot x.0 x.1 number ballot w low q)

pub owners_voted : OfEveryRun OwnersVoted
owners_voted cfg past valid run = record {
  votes = λ slot ballot number v low p.
      let x = slot_of cfg valid slot past run in
      stored cfg past slot x.0 x.1 (ballot % cfg.seqs) ballot v (owner_below cfg valid ballot)
      (x.1.sound.agreed.owners number ballot v (voted cfg past slot x.0 x.1 number ballot v low p));
  asked = λ m slot ballot v there same.
      let x = slot_of cfg valid slot past run in
      stored cfg past slot x.0 x.1 (ballot % cfg.seqs) ballot v (owner_below cfg valid ballot)
      (x.1.sound.agreed.messages (Accept ballot v) (said_is cfg past slot x.0 x.1 m (whats.Accept slot ballot v) there same refl));
}

pub accepteds_are_votes : OfEveryRun AcceptedsAreVotes
accepteds_are_votes cfg past valid run m slot ballot there same =
    let x = slot_of cfg valid slot past run in
    let told =
    x.1.sound.agreed.messages (Accepted (number_of m.from) ballot) (said_is cfg past slot x.0 x.1 m (whats.Accepted slot ballot) there same refl) in (
      told.0,
      stored cfg past slot x.0 x.1 (number_of m.from) ballot told.0
          ((x.1.sound.agreed.acceptors (number_of m.from)).within ballot told.0 told.1) told.1,
    )

-- A Promise binds its sender, and tells the last vote that it cast below the ballot.
use Rattle.std.proofs.Common.{refl}
use Rattle.majority.specs.Slot.{Promise}
use Rattle.msg_wire.specs.Nodes.{number_of}
use Rattle.runs.specs.Names.whats
use Rattle.safety_frame.specs.EveryRun.{OfEveryRun}
use Rattle.safety_agreement.specs.Votes.{PromisesTell}
use Rattle.safety_agreement.proofs.EverySlot.{slot_of}
use Rattle.safety_agreement.proofs.Reading.{bar_is, said_is, tells_is}

pub promises_tell : OfEveryRun PromisesTell
promises_tell cfg past valid run m slot ballot report there same =
    let x = slot_of cfg valid slot past run in
    let told =
    x.1.sound.agreed.messages (Promise (number_of m.from) ballot report)
    (said_is cfg past slot x.0 x.1 m (whats.Promise slot ballot report) there same refl) in
    record {
      barred = bar_is cfg past slot x.0 x.1 (number_of m.from) ballot told.within told.barred;
      tells = tells_is cfg past slot x.0 x.1 (number_of m.from) ballot report told.within told.tells;
    }

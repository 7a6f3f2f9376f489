-- No slot has two chosen entries, and what any node knows is chosen.
use Rattle.std.proofs.Common.{◌≡◌, ℕ, Some}
use Rattle.std.specs.Prelude.{slice_get}
use Rattle.majority.specs.Agreement.{bars_of}
use Rattle.majority.proofs.Chosen.{OneChosen}
use Rattle.msg_wire.specs.Valid.{IsValidConfig}
use Rattle.net_model.specs.Pasts.{Past}
use Rattle.runs.specs.Names.{NodeId, Config, Entry}
use Rattle.runs.specs.Runs.{IsPastOf}
use Rattle.runs.specs.Known.{known_at}
use Rattle.runs.specs.Chosen.{IsChosen, OneIsChosen}
use Rattle.safety_frame.specs.EveryRun.{OfEveryRun}
use Rattle.safety_agreement.proofs.EverySlot.{slot_of}
use Rattle.safety_agreement.proofs.Reading.{chosen_is, chosen_by}

pub one_is_chosen : OfEveryRun OneIsChosen
one_is_chosen cfg past valid run slot v w p q =
    let x = slot_of cfg valid slot past run in
    let agreed = x.1.sound.agreed in
    OneChosen cfg.seqs x.0.votes (bars_of x.0.acceptors) agreed.one_vote agreed.owners agreed.safe v w (chosen_by cfg past slot x.0 x.1 v p)
    (chosen_by cfg past slot x.0 x.1 w q)

pub each_known_is_chosen : (cfg : Config) (past : Past) → IsValidConfig cfg → IsPastOf cfg past → (node : NodeId) (slot : ℕ) (entry : Entry)
    → slice_get (known_at cfg node past) slot ≡ Some entry → IsChosen cfg past slot entry
each_known_is_chosen cfg past valid run node slot entry at =
    let x = slot_of cfg valid slot past run in
    chosen_is cfg past slot x.0 x.1 entry (x.1.known node entry at)

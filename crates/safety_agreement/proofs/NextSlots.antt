-- An attempt is for the first slot that its sequencer doesn't know: as it begins, and until it learns.
use Rattle.std.proofs.Common.{◌∙◌, List, length, ap}
use Rattle.runs.specs.Names.{Entry}
use Rattle.runs.specs.Kinds.{sequencer_after}
use Rattle.seq_node.proofs.Orderly.{standing}
use Rattle.safety_frame.proofs.SoundStates.{states_are_sound}
use Rattle.safety_frame.proofs.StableItems.{sequencer_is}
use Rattle.safety_frame.specs.EveryRun.{OfEveryRun}
use Rattle.safety_agreement.specs.Attempts.{AttemptsAreOfTheNextSlot}

pub attempts_are_of_the_next_slot : OfEveryRun AttemptsAreOfTheNextSlot
attempts_are_of_the_next_slot cfg past valid run number a here stands =
    let is = (states_are_sound cfg past valid run).sequencers number here in
    (standing (sequencer_after cfg number past) a is.orderly stands).slot
    ∙ ap (λ (l : List Entry). length l) (sequencer_is cfg past valid run number here).known

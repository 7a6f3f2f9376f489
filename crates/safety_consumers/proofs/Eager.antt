-- Every run is eager.
use Rattle.runs.specs.Eagerness.{IsEager}
use Rattle.safety_frame.specs.EveryRun.{OfEveryRun}
use Rattle.safety_consumers.proofs.EagerConsumers.{consumers_apply_all}
use Rattle.safety_consumers.proofs.EagerPrimaries.{primaries_promise_all}

pub eager : OfEveryRun IsEager
eager cfg past valid run = record { consumers = consumers_apply_all cfg past valid run; primaries = primaries_promise_all cfg past valid run }

use Rattle.gate_vault.proofs.Again.{on_err_always}
use Rattle.gate_vault.proofs.Moments.{put_torn}
use Rattle.gate_vault.proofs.put.put.Goals as goal

pub returns-clause-failed : goal.returns-clause-failed
returns-clause-failed g c = λ file is.
    on_err_always _ _ (put_torn c.args.at c.args.bytes.now file _ _ _ is c.in_ok-write_twice.ensures.written c.sync_twice.ensures.seen)

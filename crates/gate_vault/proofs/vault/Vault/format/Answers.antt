use Rattle.std.proofs.Common.{[], refl}
use Rattle.gate_vault.proofs.FrameBytes.{closed_stands, formatted}
use Rattle.gate_vault.proofs.vault.Vault.format.Goals as goal

pub returns-in-Ok-clause-empty : goal.returns-in-Ok-clause-empty
returns-in-Ok-clause-empty g c = λ file told.
    let done = c.in-Ok.ensures.done file told in
    record {
      file = done.file;
      told = done.told;
      stands = closed_stands done.file [] (formatted file done.file done.written);
      only = done.only;
      short = tt;
      gate = refl;
    }

pub returns-in-Ok-clause-closed : goal.returns-in-Ok-clause-closed
returns-in-Ok-clause-closed g c = λ file told.
    let done = c.in-Ok.ensures.done file told in
    (done.file, done.told, formatted file done.file done.written)

use Rattle.std.proofs.Common.{◌∙◌, ap, subst}
use Rattle.gate_vault.specs.File.{gate_after, AreShort}
use Rattle.gate_vault.proofs.FrameBytes.{stands_with}
use Rattle.gate_vault.proofs.Standing as standing
use Rattle.gate_vault.proofs.vault.Vault.load.Goals as goal

pub returns-in-Ok-clause-with_gate : goal.returns-in-Ok-clause-with_gate
returns-in-Ok-clause-with_gate g c = λ file entries told stands.
    let read = c.in-Ok.ensures.file file told in
    let same = standing.stands_for_one file _ entries read.0 (stands_with file entries stands) in (
      same,
      record {
        file = file;
        told = c.in-Ok.ensures.seen ∙ told;
        stands = stands;
        only = c.in-Ok.ensures.durable file told;
        short = subst AreShort same read.1;
        gate = read.2 ∙ ap gate_after same;
      },
    )

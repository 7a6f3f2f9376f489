use Rattle.std.proofs.Common.{sym, subst}
use Rattle.speclog.specs.Refusals.{IsWithin}
use Rattle.world.specs.PlayErrors.{IsRefusal}
use Rattle.speclog.proofs.Inputs.{refusal_within}
use Rattle.speclog.proofs.play.play_inputs.Goals as goal

pub fault_at-requires : goal.fault_at-requires
fault_at-requires c =
    let refusal = subst (λ given. IsRefusal c.args.script.now.cfg given c.in-Err.error) c.as_slice.ensures c.in-Err.ensures.refused in
    subst (λ count. IsWithin count c.in-Err.error) (sym c.requires.lines) (refusal_within c.args.script.now.cfg c.args.script.now.inputs c.in-Err.error refusal)

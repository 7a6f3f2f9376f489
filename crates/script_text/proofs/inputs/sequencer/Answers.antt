use Rattle.std.proofs.Common.{◌≡◌, sym, subst}
use Rattle.msg_wire.specs.Valid.{IsSequencerOf}
use Rattle.script_text.proofs.NodeLemmas.{sequencer_found, sequencer_missed}
use Rattle.script_text.proofs.inputs.sequencer.Goals as goal

pub returns-in-Some : goal.returns-in-Some
returns-in-Some c =
    sym (sequencer_found c.args.cfg.now c.args.word.now c.in-Some.node c.in-Some.ensures.found.1 (c.is_sequencer.ensures.0 c.if-is_sequencer.true))

pub returns-in_default : goal.returns-in_default
returns-in_default c =
    sym (sequencer_missed c.args.cfg.now c.args.word.now _ c.requires c.in-Some.ensures.only
    (λ n e h. let same : n ≡ c.in-Some.node = cc in let yes = c.is_sequencer.ensures.1 (subst (IsSequencerOf c.args.cfg.now) same h) in cc))

pub returns-in_default-2 : goal.returns-in_default-2
returns-in_default-2 c = sym (sequencer_missed c.args.cfg.now c.args.word.now _ c.requires c.in_default.ensures.only (λ n e h. cc))

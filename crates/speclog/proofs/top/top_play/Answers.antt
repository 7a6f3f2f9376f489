use Rattle.std.proofs.Common.{◌∙◌, sym}
use Rattle.speclog.specs.Plays.{Plays}
use Rattle.speclog.specs.Refusals.{refusal_of}
use Rattle.speclog.proofs.Completing.{certainly_played}
use Rattle.speclog.proofs.Usage.{usage_speaks}
use Rattle.speclog.proofs.top.top_play.Goals as goal

pub returns-in-Some-clause-answer : goal.returns-in-Some-clause-answer
returns-in-Some-clause-answer g c = usage_speaks refusal_of Plays _ _ c.in-Some.word c.refused.result.fault c.refused.result.history c.refused.ensures.fault

pub returns-in-Ok-clause-played : goal.returns-in-Ok-clause-played
returns-in-Ok-clause-played g c text cfg given numbers words left size spelled accepted source sink =
    let r = c.in-Ok.ensures.read in
    certainly_played text c.as_slice.result.now r.read (g.S.Source.left c.read_all.new.source) cfg given numbers c.play_text.result.fault
    (sym left ∙ r.taken) r.to_the_end (c.as_slice.ensures ∙ r.all) spelled accepted c.play_text.ensures.after_reading c.play_text.ensures.shelf_fault
    c.play_text.ensures.refused (λ e. sink (c.play_text.ensures.write_fault e))

use Rattle.std.proofs.Common.{refl, ◌∙◌}
use Rattle.cluster_users.proofs.Ending.{ends_so, learned, same_end, goes_on, ends}
use Rattle.cluster_users.proofs.reader.Reader.end_episode.Goals as goal

pub invariant_of-self-in-Ok : goal.invariant_of-self-in-Ok
invariant_of-self-in-Ok c =
    let learn = c.learn.ensures in
    let now = c.look-last.ensures in
    let noted = c.in-Ok.ensures ∙ same_end _ _ _ _ _ _ _ _ c.met-met.ensures (c.copy-newest.ensures ∙ c.newest.ensures) now.look in
    (ends_so c.args.told _ _ c.self.invariant c.requires.newest
    (learned _ _ _ c.learn.new.self learn.goes_on learn.told learn.rises now.history now.goes_on now.newest now.rises) noted).reads

pub returns-in-Ok-clause-goes_on : goal.returns-in-Ok-clause-goes_on
returns-in-Ok-clause-goes_on c =
    let learn = c.learn.ensures in
    let now = c.look-last.ensures in
    let noted = c.in-Ok.ensures ∙ same_end _ _ _ _ _ _ _ _ c.met-met.ensures (c.copy-newest.ensures ∙ c.newest.ensures) now.look in
    goes_on c.args.told _ _ _ c.self.view_is c.self.invariant c.requires.newest
    (learned _ _ _ c.learn.new.self learn.goes_on learn.told learn.rises now.history now.goes_on now.newest now.rises) noted
    (refl, refl, now.cell ∙ learn.cell)

pub returns-in-Ok-clause-ends : goal.returns-in-Ok-clause-ends
returns-in-Ok-clause-ends c =
    let learn = c.learn.ensures in
    let now = c.look-last.ensures in
    let noted = c.in-Ok.ensures ∙ same_end _ _ _ _ _ _ _ _ c.met-met.ensures (c.copy-newest.ensures ∙ c.newest.ensures) now.look in
    ends c.args.told _ _ _ c.self.view_is c.self.invariant c.requires.newest
    (learned _ _ _ c.learn.new.self learn.goes_on learn.told learn.rises now.history now.goes_on now.newest now.rises) noted
    c.len-self-inside.ensures c.if-self.false refl

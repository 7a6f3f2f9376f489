use Rattle.std.proofs.Common.{◌≡◌, ap, ◌∙◌}
use Rattle.std.proofs.IntoIterSteps.{All-taken}
use Rattle.node_seats.specs.Seats.{journals_of}
use Rattle.cluster_run.specs.Answers.{disks_of}
use Rattle.cluster_run.proofs.apart.apart.Goals as goal

pub returns-clause-journals : goal.returns-clause-journals
returns-clause-journals g c =
    let all : c.loop-actor.yielded ≡ c.args.actors.items =
    All-taken c.into_iter-actor-iterator.result c.loop-actor.yielded
    (c.next.new.self, (c.loop-actor.actor-iterator, c.loop-actor.yielded_by, c.in-None.ensures.steps))
    ∙ c.into_iter-actor-iterator.ensures.into_iter_gives.0 in
    c.loop-actor.invariant.journals ∙ ap journals_of all

pub returns-clause-disks : goal.returns-clause-disks
returns-clause-disks g c =
    let all : c.loop-actor.yielded ≡ c.args.actors.items =
    All-taken c.into_iter-actor-iterator.result c.loop-actor.yielded
    (c.next.new.self, (c.loop-actor.actor-iterator, c.loop-actor.yielded_by, c.in-None.ensures.steps))
    ∙ c.into_iter-actor-iterator.ensures.into_iter_gives.0 in
    c.loop-actor.invariant.disks ∙ ap disks_of all

use Rattle.std.proofs.Common.{ap}
use Rattle.std.specs.Prelude.{slice_set}
use Rattle.std.proofs.lemmas.Result.{on_ok_weaker}
use Rattle.world.proofs.Lists.{read_there}
use Rattle.world.proofs.cluster.step_at.Goals as goal

pub returns : goal.returns
returns c =
    let there = read_there c.args.made.now.items c.args.place c.index_mut-node.result.now _ c.requires.ready.0 c.index_mut-node.ensures.value in
    let leaves = on_ok_weaker c.step_into.result (λ e. rw there (ap (slice_set c.args.made.now.items c.args.place) e)) c.step_into.ensures.leaves in
    record { gives = on_ok_weaker c.step_into.result (λ e. rw there e) c.step_into.ensures.gives; leaves = leaves; valid = c.step_into.ensures.valid }

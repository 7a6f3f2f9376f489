use Rattle.std.proofs.Common.{rules, refl, subst}
use Rattle.cluster_users.specs.Submitting.{AreItemsOf}
use Rattle.cluster_users.proofs.Items.{desk_found, puts_nothing}
use Rattle.cluster_users.proofs.submitter.SubmitterTakesTurnsEnvironment.take_turns.Goals as goal

pub loop-turn-init : goal.loop-turn-init
loop-turn-init g c = (
  desk_found c.args.env.now.desks.now c.args.self c.in-Some.desk.now c.requires (search rules),
  puts_nothing 0 c.args.self _ (subst (λ s. AreItemsOf s.number s.put) c.self.view_is c.self.invariant.1) refl,
)

use Rattle.std.proofs.Common.{rules, map-id, sym, ◌∙◌, subst}
use Rattle.std.specs.List.{AllZip}
use Rattle.std.proofs.lemmas.Iterator.Adapters.{YieldsList-from_vec}
use Rattle.std.proofs.lemmas.Iterator.Consumers.{YieldsList-end}
use Rattle.scoped_turns.proofs.Pairs.{pushed}
use Rattle.cluster_crew.specs.Ending.{IsActorOf}
use Rattle.cluster_crew.proofs.apart.actors_of.Goals as goal

pub loop-member-preserved : goal.loop-member-preserved
loop-member-preserved g c = record {
  each = pushed IsActorOf _ _ _ _ _ c.push_reserved.ensures.items c.loop-member.invariant.each c.actor_of.ensures;
  room = search rules;
}

pub returns : goal.returns
returns g c =
    let end = YieldsList-end (YieldsList-from_vec c.args.members.items (search rules) (search rules)) c.loop-member.yielded
    c.loop-member.member-iterator c.loop-member.yielded_by c.next.result
    c.next.new.self c.in-None.is c.next.ensures.steps in
    subst (λ ms. AllZip IsActorOf ms c.loop-member.actors.items) (sym (map-id c.loop-member.yielded) ∙ end.0) c.loop-member.invariant.each

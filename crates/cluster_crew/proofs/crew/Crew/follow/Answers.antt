use Rattle.std.proofs.Common.{◌≡◌, length, arith, sym, ap, ◌∙◌, subst, drop}
use Rattle.std.specs.List.{AllByRecursion}
use Rattle.msg_wire.specs.Valid.{IsValidLine}
use Rattle.cluster_crew.specs.Crews.{HaveNoEpisode, NoneStopped, is_episode}
use Rattle.cluster_crew.proofs.Crews.{crew_then, follows_on, lines_on}
use Rattle.cluster_crew.proofs.Following.{drop_all, taken_none}
use Rattle.cluster_crew.proofs.Lists.{all_at}
use Rattle.cluster_crew.proofs.crew.Crew.follow.Goals as goal

pub returns-then-has_stopped-clause-ended : goal.returns-then-has_stopped-clause-ended
returns-then-has_stopped-clause-ended g c = λ none.
    absurd (c.has_stopped.ensures c.if-has_stopped.true (subst NoneStopped (sym c.deref-in-loop-place.ensures.value) none))

pub do_line-next-requires-clause-places : goal.do_line-next-requires-clause-places
do_line-next-requires-clause-places g c = λ κs within.
    follows_on g.N.NodeModel g.D.Disk c.args.plan.now c.args.desks.now c.args.self c.loop-place.crew c.requires.places c.loop-place.invariant.stays

pub do_line-next-requires-clause-valid : goal.do_line-next-requires-clause-valid
do_line-next-requires-clause-valid g c = λ κs within.
    subst (IsValidLine c.args.plan.now) (sym c.index-lines-place.is)
    (all_at (IsValidLine c.args.plan.now) c.as_slice-lines.result.now c.loop-place.place c.index-lines-place.result
    (subst (λ lines. AllByRecursion (IsValidLine c.args.plan.now) lines) (sym c.as_slice-lines.ensures) c.requires.valid.lines) (omega arith))

pub returns-in-Err-clause-stays : goal.returns-in-Err-clause-stays
returns-in-Err-clause-stays g c =
    crew_then g.N.NodeModel g.D.Disk c.args.self c.loop-place.crew c.do_line-next.result.0 c.loop-place.invariant.stays c.do_line-next.ensures.stays

pub loop-place-preserved : goal.loop-place-preserved
loop-place-preserved g c = record {
  stays = crew_then g.N.NodeModel g.D.Disk c.args.self c.loop-place.crew c.do_line-next.result.0 c.loop-place.invariant.stays c.do_line-next.ensures.stays;
  ended = lines_on g.N.NodeModel g.D.Disk c.as_slice-lines.result.now c.loop-place.place c.index-lines-place.result c.have_no_episode-is_last.result
      c.loop-place.crew
      c.do_line-next.result.0 (omega arith) c.do_line-next.ensures.stays c.loop-place.invariant.ended
      (λ is last. c.do_line-next.ensures.ended (ap is_episode c.index-lines-place.is ∙ is) last)
      (λ later none. c.have_no_episode-is_last.ensures.no later (taken_none _ _ none));
}

pub returns-clause-ended : goal.returns-clause-ended
returns-clause-ended g c = λ none.
    let end : length c.as_slice-lines.result.now ≡ c.loop-place.place = omega arith in
    c.loop-place.invariant.ended (subst (λ n. HaveNoEpisode (drop n c.as_slice-lines.result.now)) end (drop_all c.as_slice-lines.result.now))

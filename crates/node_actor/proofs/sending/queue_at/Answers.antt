use Rattle.std.proofs.Common.{inl, inr, Some, None, get_or, sym, ap, ◌∙◌}
use Rattle.node_actor.specs.Lanes.{passed, at_place, lanes}
use Rattle.node_actor.proofs.Results.{map_ok}
use Rattle.node_actor.proofs.LaneLemmas.{passed_by_plan, passed_plainly, links_set, lanes_set, lanes_out, lanes_past}
use Rattle.node_actor.proofs.sending.queue_at.Goals.{then-place-outs-via-then-place-outs, then-place-outs-via-else-place-outs+then-place-faults}
use Rattle.node_actor.proofs.sending.queue_at.Goals as goal

pub returns-then-place-outs-clause-ok : goal.returns-then-place-outs-clause-ok
returns-then-place-outs-clause-ok c = elim c.then-place-outs.branch [
  | then-place-outs-via-then-place-outs w ↦ lanes_past _ c.args.outs.now c.args.faults.now c.args.place (inl w.if-place-outs.true)
  | then-place-outs-via-else-place-outs+then-place-faults w ↦ lanes_past _ c.args.outs.now c.args.faults.now c.args.place (inr w.if-place-faults.true)
]

pub returns-in-Some-clause-links : goal.returns-in-Some-clause-links
returns-in-Some-clause-links c =
    links_set c.args.outs.now c.args.place c.index-outs-place.result c.send.new.out c.if-place-outs.false c.send.ensures.link

pub returns-in-Some-clause-ok : goal.returns-in-Some-clause-ok
returns-in-Some-clause-ok c =
    let o = c.index-outs-place.result in
    let h = c.index-faults-place.result in
    let outs = c.args.outs.now in
    let faults = c.args.faults.now in
    let k = c.args.place in
    map_ok c.send.result
    (λ (is : _). lanes_set (passed (Some c.in-Some.plan) c.args.frame) outs faults k o c.send.new.out h c.send.new.self c.if-place-outs.false
    c.if-place-faults.false
    (passed_by_plan c.in-Some.plan c.args.frame (get_or outs k o) c.send.new.out
    (get_or faults k h) c.send.new.self is c.send.ensures.words c.send.ensures.held)
    ∙ ap (λ plan. at_place k (passed plan c.args.frame) (lanes outs faults)) (sym c.in-Some.is))
    c.send.ensures.ok

pub returns-in-None-clause-links : goal.returns-in-None-clause-links
returns-in-None-clause-links c =
    links_set c.args.outs.now c.args.place c.index-outs-place-in-None.result c.queue.new.self c.if-place-outs.false c.queue.ensures.link

pub returns-in-None-clause-ok : goal.returns-in-None-clause-ok
returns-in-None-clause-ok c =
    let o = c.index-outs-place-in-None.result in
    let outs = c.args.outs.now in
    let faults = c.args.faults.now in
    let k = c.args.place in
    map_ok c.queue.result
    (λ (is : _). lanes_out (passed None c.args.frame) outs faults k o c.queue.new.self c.if-place-outs.false
    (λ h. passed_plainly c.args.frame (get_or outs k o) c.queue.new.self h c.queue.ensures.ring.1 is)
    ∙ ap (λ plan. at_place k (passed plan c.args.frame) (lanes outs faults)) (sym c.in-None.is))
    c.queue.ensures.ok

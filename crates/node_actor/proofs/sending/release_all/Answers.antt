use Rattle.std.proofs.Common.{get_or, ap, ◌∙◌, arith}
use Rattle.node_actor.specs.Lanes.{lanes, at_place, released}
use Rattle.node_actor.proofs.LaneLemmas.{lane_after, links_set, lanes_set, release_more_at, all_released_min}
use Rattle.node_actor.proofs.sending.release_all.Goals as goal

pub returns-in_err-release-clause-links : goal.returns-in_err-release-clause-links
returns-in_err-release-clause-links c =
    links_set c.loop-place.outs c.loop-place.place c.index-outs-place.result c.release.new.out (omega arith) c.in_err-release.ensures.link
    ∙ c.loop-place.invariant.links

pub loop-place-preserved : goal.loop-place-preserved
loop-place-preserved c =
    let outs = c.loop-place.outs in
    let faults = c.loop-place.faults in
    let k = c.loop-place.place in
    let o = c.index-outs-place.result in
    let h = c.index-faults-place.result in
    let none = c.in_ok-release.ensures.none in
    let ok = c.in_ok-release.ensures.ok in
    let links = c.in_ok-release.ensures.link in
    record {
      links = links_set outs k o c.release.new.out (omega arith) links ∙ c.loop-place.invariant.links;
      sent = lanes_set released outs faults k o c.release.new.out h c.release.new.self (omega arith) (omega arith) (lane_after
          (get_or outs k o) c.release.new.out (get_or faults k h) c.release.new.self ok none)
          ∙ ap (at_place k released) c.loop-place.invariant.sent ∙ release_more_at k (lanes c.args.outs.now c.args.faults.now);
    }

pub returns-clause-ok : goal.returns-clause-ok
returns-clause-ok c =
    c.loop-place.invariant.sent ∙ all_released_min c.loop-place.place c.args.outs.now c.args.faults.now (omega arith)

use Rattle.std.proofs.Common.{◌≡◌, rules, ap, arith, length, map, subst, sym, ◌∙◌}
use Rattle.std.proofs.lemmas.Iterator.Adapters.{YieldsList-from_vec}
use Rattle.std.proofs.lemmas.Iterator.Consumers.{YieldsList-end}
use Rattle.std.proofs.lemmas.List.{length-map, map-id}
use Rattle.std.proofs.lemmas.Simd.{map-map}
use Rattle.std.specs.List.{AllByRecursion}
use Rattle.std.specs.Vec.Iter.{into_iter_len}
use Rattle.link_rows.specs.Rows.{names_of_ins, names_of_outs}
use Rattle.cluster_seats.specs.Blanks.{IsBlank}
use Rattle.cluster_seats.specs.Seatings.{AreMadeOf}
use Rattle.cluster_seats.proofs.Begun.{sit}
use Rattle.cluster_seats.proofs.Making.{all_made, one_made}
use Rattle.cluster_seats.proofs.seating.seat_all.Goals as goal

pub loop-blank-preserved : goal.loop-blank-preserved
loop-blank-preserved g c =
    let before = c.loop-blank.invariant in
    record {
      start = (subst (AllByRecursion (IsBlank g.N.NodeModel)) c.in-Some.ensures.steps.0 before.start).1;
      midway = one_made g.N.NodeModel g.D.Disk c.args.plan _ c.loop-blank.yielded _ _ c.loop-blank.actors.items _ c.in-Some.blank c.next_of-vault.result
          c.next_of-sends.result.items c.next_of-receives.result.items c.seat.result c.next_of-vault.ensures.first
          (ap (map (λ row. row.items)) c.next_of-sends.ensures.first) (ap (map (λ row. row.items)) c.next_of-receives.ensures.first)
          c.push_reserved.ensures.items c.seat.ensures before.midway;
      vaults = search rules;
      outs = search rules;
      ins = search rules;
      room = search rules;
    }

pub returns-clause-made : goal.returns-clause-made
returns-clause-made g c =
    let gives = c.into_iter-blank-iterator.ensures.into_iter_gives in
    let len : into_iter_len c.into_iter-blank-iterator.result ≡ length c.args.blanks.items = omega (arith, gives.1, c.args.blanks.ok.0) in
    let from = YieldsList-from_vec {s = c.into_iter-blank-iterator.result} c.args.blanks.items gives.0 len in
    let end = YieldsList-end from c.loop-blank.yielded c.loop-blank.blank-iterator c.loop-blank.yielded_by c.next.result c.next.new.self c.in-None.is
    c.next.ensures.steps in
    let all : c.loop-blank.yielded ≡ c.args.blanks.items = sym (map-id c.loop-blank.yielded) ∙ end.0 in
    let count = sym end.1 in
    let outs = map (λ row. row.items) c.args.outs.items in
    let ins = map (λ row. row.items) c.args.ins.items in
    subst (λ l. AreMadeOf g.N.NodeModel g.D.Disk c.args.plan l c.args.vaults.items outs ins c.loop-blank.actors.items) all
    (all_made g.N.NodeModel g.D.Disk c.args.plan _ c.loop-blank.yielded _ c.loop-blank.actors.items (c.requires.vaults ∙ count)
    (length-map c.args.outs.items (λ row. row.items) ∙ c.requires.outs ∙ count)
    (length-map c.args.ins.items (λ row. row.items) ∙ c.requires.ins ∙ count) c.loop-blank.invariant.midway)

pub returns-clause-sit : goal.returns-clause-sit
returns-clause-sit g c =
    sit g.N.NodeModel g.D.Disk c.args.plan c.args.blanks.items c.args.vaults.items _ _ _ _ c.loop-blank.actors.items
    (sym (map-map names_of_outs (λ row. row.items) c.args.outs.items)) (sym (map-map names_of_ins (λ row. row.items) c.args.ins.items))
    (returns-clause-made g c)

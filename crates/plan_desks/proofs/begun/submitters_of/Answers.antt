use Rattle.std.proofs.Common.{rules, ◌∙◌, ◌≡◌, ◌+◌, ◌<◌, length, get_or, vec_len, arith, refl, sym, ap}
use Rattle.submit_desk.specs.declared.knows.Knows.{Knows}
use Rattle.plan_desks.proofs.Zips.{counted, zip_length, place_below, taking_at, taking_set, clients_set, bodies_split, begun_next, submitting_is}
use Rattle.plan_desks.specs.Desks.{IsTaking, bodies_for}
use Rattle.plan_desks.proofs.begun.submitters_of.Goals as goal

pub bounds-takers-place : goal.bounds-takers-place
bounds-takers-place g c =
    let within =
    place_below c.args.desks.now c.args.clients.now c.len-number.result c.from-place.result c.requires.clients (search rules) c.from-place.ensures in
    let same = zip_length (IsTaking _) c.args.desks.now c.loop-held.takers c.loop-held.invariant.takers in
    omega (arith, within, same)

pub split-pass-requires-clause-desk : goal.split-pass-requires-clause-desk
split-pass-requires-clause-desk g c =
    let within =
    place_below c.args.desks.now c.args.clients.now c.len-number.result c.from-place.result c.requires.clients (search rules) c.from-place.ensures in
    (taking_at _ c.args.desks.now c.loop-held.takers c.from-place.result c.index-desks-place.result c.index-takers-place.result c.loop-held.invariant.takers
    within
    c.index-desks-place.is).desk

pub split-pass-requires-clause-takes : goal.split-pass-requires-clause-takes
split-pass-requires-clause-takes g c =
    let within =
    place_below c.args.desks.now c.args.clients.now c.len-number.result c.from-place.result c.requires.clients (search rules) c.from-place.ensures in
    let is =
    taking_at _ c.args.desks.now c.loop-held.takers c.from-place.result c.index-desks-place.result c.index-takers-place.result c.loop-held.invariant.takers
    within
    c.index-desks-place.is in
    ap (λ (v : Knows). v.takes) is.knows

pub split-pass-requires-clause-by : goal.split-pass-requires-clause-by
split-pass-requires-clause-by g c =
    let number : c.len-number.result < length c.args.clients.now = search rules in
    let few = c.requires.few in
    let within =
    place_below c.args.desks.now c.args.clients.now c.len-number.result c.from-place.result c.requires.clients number c.from-place.ensures in
    let is =
    taking_at _ c.args.desks.now c.loop-held.takers c.from-place.result c.index-desks-place.result c.index-takers-place.result c.loop-held.invariant.takers
    within
    c.index-desks-place.is in
    let low = is.below in
    let same = c.len-number.ensures in
    (omega (arith, number, few), omega (arith, low, same))

pub loop-held-preserved : goal.loop-held-preserved
loop-held-preserved g c =
    let number : c.len-number.result < length c.args.clients.now = search rules in
    let within =
    place_below c.args.desks.now c.args.clients.now c.len-number.result c.from-place.result c.requires.clients number c.from-place.ensures in
    let up : vec_len c.push.new.self ≡ vec_len c.loop-held.submitters + 1 = search rules in
    let at = c.len-number.ensures in
    let count = c.loop-held.invariant.count in
    let all : 0 + length c.loop-held.yielded ≡ vec_len c.loop-held.submitters = omega (arith, count) in
    let is =
    taking_at _ c.args.desks.now c.loop-held.takers c.from-place.result c.index-desks-place.result c.index-takers-place.result c.loop-held.invariant.takers
    within
    c.index-desks-place.is in
    record {
      left = search rules;
      count = counted c.loop-held.yielded c.in-Some.held _ _ c.loop-held.invariant.count up;
      takers =
          taking_set _ c.len-number.result _ c.args.desks.now c.loop-held.takers c.from-place.result c.index-desks-place.result c.index-takers-place.result _
          c.loop-held.invariant.takers within c.index-desks-place.is at up c.split-pass.ensures.desk.0 c.split-pass.ensures.stays;
      same = λ number are. clients_set number c.loop-held.takers c.from-place.result c.index-takers-place.result _ refl (c.loop-held.invariant.same number are);
      begun = λ lines are.
          let parts = bodies_split (λ q. q.items) lines 0 c.loop-held.yielded c.in-Some.held are in
          begun_next c.args.desks.now lines c.args.clients.now _ _ c.loop-held.submitters.items _ c.from-place.result c.index-desks-place.result _
          (c.loop-held.invariant.begun lines parts.0) (omega (arith, number, at)) (search rules) up c.in_ok-push.ensures.items
          (c.from-place.ensures ∙ ap (λ n. get_or c.args.clients.now n 0) at) c.index-desks-place.is within
          (c.new.ensures
          ∙ submitting_is c.len-number.result _ _ _ c.split-pass.result.desk _ c.in-Some.held.items _ at (sym c.from-place.ensures)
          (c.split-pass.ensures.desk.1 ∙ is.desk) (parts.1 ∙ ap (λ n. bodies_for n lines) all));
    }

use Rattle.std.proofs.Common.{length, subst, sym, ◌∙◌}
use Rattle.node_seats.proofs.Zips.{zip_length}
use Rattle.plan_views.specs.Views.{AreWatching, IsOpened}
use Rattle.cluster_run.proofs.UsersFit.{takers_from, clients_as_asked, desks_as_asked, all_unshown, consumers_as_asked, looks_as_asked}
use Rattle.cluster_run.proofs.ready.users_for.Goals as goal

pub returns : goal.returns
returns g c =
    let plan = c.args.plan.now in
    let desks = c.in_ok-desks.field-0.desks.items in
    let publishers = c.in_ok-publishers.field-0.publishers.items in
    let readers = c.in_ok-publishers.field-0.readers.items in
    let submitters = c.in_ok-desks.field-0.submitters.items in
    let openings = c.in_ok-openings.openings.items in
    let watch = subst (λ l. AreWatching publishers 0 l readers) c.as_slice.ensures c.in_ok-publishers.ensures.readers in
    record {
      desks_each = c.in_ok-desks.ensures.desks;
      takers_from = takers_from (length plan.submitters) desks c.in_ok-desks.field-0.takers.items c.in_ok-desks.ensures.takers;
      views_each = sym (zip_length IsOpened openings publishers c.in_ok-publishers.ensures.publishers) ∙ c.in_ok-openings.ensures.count;
      unshown = all_unshown openings publishers c.in_ok-publishers.ensures.publishers c.in_ok-openings.ensures.first;
      consumers = consumers_as_asked publishers 0 plan.readers readers watch;
      look_at = looks_as_asked publishers 0 plan.readers readers watch;
      clients = clients_as_asked desks plan.lines 0 plan.submitters submitters c.in_ok-desks.ensures.submitters;
      submit_to = desks_as_asked desks plan.lines 0 plan.submitters submitters c.in_ok-desks.ensures.submitters;
    }

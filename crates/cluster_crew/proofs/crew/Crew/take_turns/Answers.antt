use Rattle.std.proofs.Common.{sym, ◌∙◌}
use Rattle.cluster_crew.proofs.Crews.{crew_then}
use Rattle.cluster_crew.proofs.crew.Crew.take_turns.Goals as goal

pub run_episode-crew-requires-clause-places : goal.run_episode-crew-requires-clause-places
run_episode-crew-requires-clause-places g c = λ κs within. let (places, at, fits) = c.requires in (places, at, fits.desks_at, fits.sources_at)

pub told-requires : goal.told-requires
told-requires g c =
    let (places, at, fits) = c.requires in
    let now = c.run_episode-crew.ensures.at places at in
    (places.posts, places.watches, now.members, now.readers, fits.cells, fits.readers ∙ sym c.as_slice.ensures)

pub returns-in-Ok : goal.returns-in-Ok
returns-in-Ok g c = crew_then g.N.NodeModel g.D.Disk c.args.self c.run_episode-crew.result.0 c.told.result.0 c.run_episode-crew.ensures c.told.ensures

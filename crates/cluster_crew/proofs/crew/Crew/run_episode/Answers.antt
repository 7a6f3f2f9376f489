use Rattle.cluster_crew.proofs.Crews.{episode_stays, members_ready, submitters_ready}
use Rattle.cluster_crew.proofs.crew.Crew.run_episode.Goals as goal

pub episode-members-requires-clause-first : goal.episode-members-requires-clause-first
episode-members-requires-clause-first g c =
    λ κs lives. let (places, at, desks, sources) = c.requires.places in members_ready g.N.NodeModel g.D.Disk c.args.desks.now places.posts _ at.members desks

pub episode-members-requires-clause-third : goal.episode-members-requires-clause-third
episode-members-requires-clause-third g c =
    λ κs lives. let (places, at, desks, sources) = c.requires.places in submitters_ready c.args.desks.now places.sources _ at.submitters sources

pub returns : goal.returns
returns g c =
    let ran = c.episode-members.ensures in episode_stays g.N.NodeModel g.D.Disk c.episode-members.result.3 c.args.turns c.args.self _ ran.first
    ran.second ran.third ran.err

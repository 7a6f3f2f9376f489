use Rattle.cluster_crew.proofs.crew.Crew.begun.Goals as goal

pub returns-else-have_no_episode-clause-ended : goal.returns-else-have_no_episode-clause-ended
returns-else-have_no_episode-clause-ended g c = λ none. absurd (c.if-have_no_episode.ensures.no (cc) none)

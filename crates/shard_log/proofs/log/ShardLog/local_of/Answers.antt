use Rattle.std.proofs.Common.{ap, ◌∙◌}
use Rattle.shard_log.specs.inside.Places.{first_with}
use Rattle.shard_log.proofs.LogLemmas.{first_with_places_of}
use Rattle.shard_log.proofs.log.ShardLog.local_of.Goals as goal

pub returns : goal.returns
returns c =
    c.local_of.ensures ∙ ap (first_with c.args.number) c.index_of.ensures.places ∙ first_with_places_of c.args.client c.args.number c.args.self.now

use Rattle.std.proofs.Common.{◌≡◌, take, ap, ◌∙◌}
use Rattle.shard_log.specs.inside.Places.{last_below}
use Rattle.shard_log.specs.ShardLog.{last_of}
use Rattle.record_codec.specs.Records.{IsValidRecord}
use Rattle.shard_log.proofs.LogLemmas.{last_below_places_of, last_of_valid}
use Rattle.std.proofs.lemmas.List.Elements.{All-take}
use Rattle.shard_log.proofs.log.ShardLog.last_of.Goals as goal

last : (c : goal.After-last_below) → c.last_below.result ≡ last_of c.args.client (take c.args.end c.args.self.now)
last c = c.last_below.ensures ∙ ap (last_below c.args.end) c.index_of.ensures.places ∙ last_below_places_of c.args.client c.args.end c.args.self.now

pub returns-clause-last : goal.returns-clause-last
returns-clause-last c = last c

pub returns-clause-small : goal.returns-clause-small
returns-clause-small c =
    rw (last c) (last_of_valid c.args.client (take c.args.end c.args.self.now) (All-take IsValidRecord c.args.end c.args.self.now c.index_of.ensures.valid))

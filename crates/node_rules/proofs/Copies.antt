-- Clusters with the same parts are one.
use Rattle.std.proofs.Common.{◌≡◌}
use Rattle.node_rules.specs.Names.{Config}

pub configs_same : (a b : Config) → a.seqs ≡ b.seqs → a.shards ≡ b.shards → a.rounds ≡ b.rounds → a.table ≡ b.table → a.homes ≡ b.homes
    → a.consumers ≡ b.consumers → a.app ≡ b.app → a ≡ b
configs_same a b seqs shards rounds table homes consumers app =
    let same : ◌≡◌ {A = Config} (record { seqs = a.seqs; shards = a.shards; rounds = a.rounds; table = a.table; homes = a.homes; consumers = a.consumers; app = a.app })
    (record { seqs = b.seqs; shards = b.shards; rounds = b.rounds; table = b.table; homes = b.homes; consumers = b.consumers; app = b.app }) = cc in
    same

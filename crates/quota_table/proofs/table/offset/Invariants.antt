use Rattle.std.proofs.Common.{◌≡◌, ◌+◌, ◌*◌, ◌≤◌, drop}
use Rattle.quota_table.specs.Rows.{has_shard}
use Rattle.quota_table.specs.Tables.{quotas_before}
use Rattle.quota_table.proofs.table.offset.Given as goal

abbrev pub invariant-loop-row : goal.invariant-loop-row
invariant-loop-row l = record {
  row : has_shard l.shard l.row-items ≡ has_shard l.shard (drop l.row-index l.row-items);
  before : quotas_before l.row-items l.shard ≡ l.before + quotas_before (drop l.row-index l.row-items) l.shard;
  bound : l.before ≤ 255 * l.row-index;
}

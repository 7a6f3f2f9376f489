use Rattle.std.proofs.Common.{ℕ, ◌++◌, length, ap, refl}
use Rattle.std.proofs.lemmas.List.{drop-replicate}
use Rattle.record_pool.proofs.chains.block_of.Goals as goal

pub returns : goal.returns
returns c = rw (c.copy_from_slice.ensures.after, drop-replicate {X = ℕ} (length c.args.part.now) 64 0) refl

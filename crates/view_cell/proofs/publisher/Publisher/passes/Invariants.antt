use Rattle.std.proofs.Common.{◌≡◌, vec_len}
use Rattle.std.specs.List.{All}
use Rattle.view_cell.specs.Ends.{watching_at}
use Rattle.view_cell.proofs.publisher.Publisher.passes.Given as goal

-- so many readers were made, and the publisher is as it was
abbrev pub invariant-loop-made : goal.invariant-loop-made
invariant-loop-made g l = (l.self ≡ l.fn.self) × (vec_len l.passes ≡ l._made) × All (λ pass. pass ≡ watching_at l.fn.self.cell l.fn.self.newest) l.passes.items

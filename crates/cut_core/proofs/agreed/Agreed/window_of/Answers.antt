use Rattle.std.proofs.Common.{◌<◌, ◌≤◌, arith}
use Rattle.cut_core.specs.Map.{covered_locals}
use Rattle.cut_core.proofs.Reach.{IsSettled_view}
use Rattle.cut_core.proofs.Standing.{rising_locals, local_found, is_past_local, no_locals}
use Rattle.cut_core.proofs.agreed.Agreed.window_of.Goals as goal
use Rattle.cut_core.proofs.agreed.Agreed.window_of.Goals.{then-shard-gt5-via-then-shard-gt5, then-shard-gt5-via-else-shard-gt5+then-local-locals}

pub returns-then-shard-gt5 : goal.returns-then-shard-gt5
returns-then-shard-gt5 c =
    let a = c.args.self.now in
    let is = IsSettled_view c.self.inside a c.self.view_is c.self.invariant in
    let past : covered_locals a c.args.shard ≤ c.args.local = elim c.then-shard-gt5.branch [
      | then-shard-gt5-via-then-shard-gt5 w ↦ omega (arith, no_locals a c.args.shard is.sound is.final (omega arith))
      | then-shard-gt5-via-else-shard-gt5+then-local-locals w ↦ omega (arith, w.locals.ensures.locals)
    ] in
    is_past_local a c.args.shard c.args.local is.sound past

pub count_to_local-over-requires-clause-rising : goal.count_to_local-over-requires-clause-rising
count_to_local-over-requires-clause-rising c = rising_locals c.self.inside c.deref.result.now c.args.shard c.self.invariant c.deref.ensures.value (omega arith)

pub returns : goal.returns
returns c =
    let within : c.args.local < covered_locals c.args.self.now c.args.shard = omega (arith, c.locals.ensures.locals) in
    (within, local_found c.self.inside c.args.self.now c.args.shard c.args.local c.count_to_local-over.result c.deref.result.now c.deref-2.result.now c.window_from.result.now c.self.view_is c.self.invariant (omega arith) within c.deref.ensures.value c.deref-2.ensures.value c.count_to_local-over.ensures.bound c.count_to_local-over.ensures.point c.window_from.ensures)

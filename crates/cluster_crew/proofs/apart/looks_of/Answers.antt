use Rattle.std.proofs.Common.{rules}
use Rattle.scoped_turns.proofs.Pairs.{pushed}
use Rattle.cluster_crew.specs.Ending.{IsKeptBy}
use Rattle.cluster_crew.proofs.apart.looks_of.Goals as goal

pub loop-reader-preserved : goal.loop-reader-preserved
loop-reader-preserved c = record {
  each = pushed IsKeptBy _ _ _ _ _ c.push_reserved.ensures.items c.loop-reader.invariant.each
      (c.into_looks.ensures.of.0, c.into_looks.ensures.of.1, c.into_looks.ensures.list);
  room = search rules;
}

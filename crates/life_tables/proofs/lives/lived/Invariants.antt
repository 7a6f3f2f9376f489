use Rattle.spec_base.specs.Spelling.{IsValidNode}
use Rattle.life_tables.proofs.lives.lived.Given as goal

abbrev pub invariant-loop-part : goal.invariant-loop-part
invariant-loop-part g l = g.N.Lives.is_ready l.node × IsValidNode l.me

use Rattle.net_model.specs.Pasts.{past_of}
use Rattle.safety_agreement.proofs.KnownLists.{known_is_chosen}
use Rattle.safety_logs.proofs.TrueCuts.{cuts_are_true}
use Rattle.safety_consumers.proofs.Eager.{eager}
use Rattle.safety_marks.proofs.Speculations.{speculation_agrees}
use Rattle.world.proofs.Safe.{safe}
use Rattle.world.proofs.safety.laws.Goals as goal

pub returns-clause-safe : goal.returns-clause-safe
returns-clause-safe c = safe c.args.cfg.now (past_of c.args.history.now) c.requires.valid c.requires.run

pub returns-clause-true_cuts : goal.returns-clause-true_cuts
returns-clause-true_cuts c = cuts_are_true c.args.cfg.now (past_of c.args.history.now) c.requires.valid c.requires.run

pub returns-clause-eager : goal.returns-clause-eager
returns-clause-eager c = eager c.args.cfg.now (past_of c.args.history.now) c.requires.valid c.requires.run

pub returns-clause-known : goal.returns-clause-known
returns-clause-known c = known_is_chosen c.args.cfg.now (past_of c.args.history.now) c.requires.valid c.requires.run

pub returns-clause-speculation : goal.returns-clause-speculation
returns-clause-speculation c = speculation_agrees c.args.cfg.now (past_of c.args.history.now) c.requires.valid c.requires.run

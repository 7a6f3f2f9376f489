use Rattle.std.proofs.Common.{rules, not}
use Rattle.std.specs.Str.{bytes_eq}
use Rattle.arrayvec.proofs.ArrayVecLemmas.{filter-from_retain}
use Rattle.app_law.proofs.kv.drop_entries.Goals as goal

pub returns : goal.returns
returns c = filter-from_retain _ (λ e. not (bytes_eq e.key c.args.key.now)) _ (λ x b f y h. search rules) _ _ c.retain.ensures.filtered

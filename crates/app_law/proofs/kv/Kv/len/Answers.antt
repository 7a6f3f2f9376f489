use Rattle.std.proofs.Common.{ap, sym, ◌∙◌}
use Rattle.std.proofs.lemmas.List.{length-map}
use Rattle.std.specs.FinMap as finite
use Rattle.app_law.specs.inside.KvEntries.{pairs_of}
use Rattle.app_law.proofs.KvLemmas.{len_pairs}
use Rattle.app_law.proofs.kv.Kv.len.Goals as goal

pub returns-clause-len : goal.returns-clause-len
returns-clause-len c =
    let items = c.self.inside.entries.items in
    c.len.ensures.value ∙ (sym (length-map items (λ e. (e.key, e.value))) ∙ (sym (len_pairs (pairs_of items) c.self.invariant) ∙ ap finite.len c.self.view_is))

use Rattle.std.proofs.Common.{ap, sym, ◌∙◌}
use Rattle.std.specs.FinMap as finite
use Rattle.app_law.specs.inside.KvEntries.{pairs_of, value_under}
use Rattle.app_law.proofs.KvLemmas.{value_under_find, get_pairs}
use Rattle.app_law.proofs.kv.Kv.get.Goals as goal

pub returns : goal.returns
returns c =
    let items = c.self.inside.entries.items in
    let key = c.args.key.now in
    c.value_in.ensures ∙ (ap (value_under key) c.as_slice.ensures.value ∙ (value_under_find key items ∙ (sym (get_pairs (pairs_of items) key) ∙ ap (λ m. finite.get m key) c.self.view_is)))

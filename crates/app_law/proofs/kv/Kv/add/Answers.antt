use Rattle.std.proofs.Common.{◌≡◌, ◌<◌, ◌≤◌, length, ap, sym, ◌∙◌, arith, lit<}
use Rattle.std.proofs.lemmas.List.{length-map}
use Rattle.std.specs.FinMap as finite
use Rattle.app_law.specs.inside.KvEntries.{pairs_of}
use Rattle.app_law.proofs.KvLemmas.{IsKeyed_push, map_push, get_pairs, len_pairs}
use Rattle.app_law.proofs.kv.Kv.add.Goals as goal

pub push-requires : goal.push-requires
push-requires c =
    let items = c.self.inside.entries.items in
    let keys : length items ≡ finite.len c.args.self.now = sym (length-map items (λ e. (e.key, e.value))) ∙ (sym (len_pairs (pairs_of items) c.self.invariant) ∙ ap finite.len c.self.view_is) in
    let room : finite.len c.args.self.now ≤ 31 = c.requires.room in
    let fits : length items < 32 = omega arith in
    (lit< tt, fits)

pub invariant_of-self : goal.invariant_of-self
invariant_of-self c =
    let items = c.self.inside.entries.items in
    let none = sym (get_pairs (pairs_of items) c.args.key) ∙ (ap (λ m. finite.get m c.args.key) c.self.view_is ∙ c.requires.new) in
    rw c.push.ensures.items (IsKeyed_push items (record { key = c.args.key; value = c.args.value }) c.self.invariant none)

pub returns : goal.returns
returns c =
    let items = c.self.inside.entries.items in
    let none = sym (get_pairs (pairs_of items) c.args.key) ∙ (ap (λ m. finite.get m c.args.key) c.self.view_is ∙ c.requires.new) in
    rw c.push.ensures.items (map_push items (record { key = c.args.key; value = c.args.value }) none ∙ ap (λ m. finite.insert m c.args.key c.args.value) c.self.view_is)

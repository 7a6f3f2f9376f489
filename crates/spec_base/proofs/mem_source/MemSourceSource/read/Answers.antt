use Rattle.std.proofs.Common.{◌≡◌, ◌+◌, ◌++◌, Some, take, drop, sym, ap, ◌∙◌, rules}
use Rattle.spec_base.specs.Memory.{SourceMemory}
use Rattle.spec_base.proofs.SourceLemmas.{given_then_left}
use Rattle.spec_base.proofs.mem_source.MemSourceSource.read.Goals as goal

pub returns-clause-given : goal.returns-clause-given
returns-clause-given c =
    let at = c.self.inside.at in
    let count = c.copy_front-count.result in
    let bytes = c.self.inside.bytes.items in
    let left : c.args.self.now.left ≡ drop at bytes = ap (λ (s : SourceMemory). s.left) (sym c.self.view_is) in
    let given : take count (drop at bytes) ≡ take count c.copy_front-count.new.into = search rules in
    ap Some (left ∙ given_then_left at count bytes ∙ ap (λ l. l ++ drop (at + count) bytes) given)

use Rattle.std.proofs.Common.{◌≡◌, ◌∙◌, ◌≤◌, ◌++◌, length, take, drop, sym, subst, ap, arith}
use Rattle.std.specs.List.{concat}
use Rattle.std.proofs.lemmas.List.{length-take-le}
use Rattle.record_pool.specs.Chains.{chain, contents}
use Rattle.record_pool.specs.Pools.{bytes_of}
use Rattle.record_pool.specs.inside.Kept.{Below}
use Rattle.record_pool.proofs.PoolLemmas.{owned, owned_by, blocks_hold, bytes_read}
use Rattle.record_pool.proofs.pool.RecordPool.read.Goals as goal

pub index-count-requires : goal.index-count-requires
index-count-requires c =
    let i = c.self.inside in
    let own = owned i.blocks.items i.next.items i.counts.items i.head i.free c.first-first.result c.args.self.now c.args.item.now c.self.invariant
    c.self.view_is c.requires.belongs
    c.first-first.ensures in
    omega (arith, own.inside, i.counts.ok.0)

pub copy_out-requires-clause-below : goal.copy_out-requires-clause-below
copy_out-requires-clause-below c =
    let i = c.self.inside in
    let next = i.next.items in
    let first = c.first-first.result in
    let k = c.index-count.result.now in
    let own = owned i.blocks.items next i.counts.items i.head i.free first c.args.self.now c.args.item.now c.self.invariant c.self.view_is c.requires.belongs
    c.first-first.ensures in
    let by = owned_by i.counts.items first c.args.item.now.len k own c.index-count.ensures in
    let inner : Below (length next) (chain next first k) =
    subst (λ t. Below t (chain next first k)) (sym c.self.invariant.links) (subst (λ n. Below (length i.blocks.items) (chain next first n)) (sym by.is)
    (c.self.invariant.below first)) in
    subst (λ ns. Below (length ns) (chain ns first k)) (sym c.deref-2.ensures.value) inner

pub copy_out-requires-clause-room : goal.copy_out-requires-clause-room
copy_out-requires-clause-room c =
    let i = c.self.inside in
    let first = c.first-first.result in
    let item = c.args.item.now in
    let own = owned i.blocks.items i.next.items i.counts.items i.head i.free first c.args.self.now item c.self.invariant c.self.view_is c.requires.belongs
    c.first-first.ensures in
    let by = owned_by i.counts.items first item.len c.index-count.result.now own c.index-count.ensures in
    let front : length (take c.len.result c.args.into.now) ≡ item.len =
    length-take-le c.len.result c.args.into.now (omega (arith, c.len.ensures, c.requires.room)) ∙ c.len.ensures in
    omega (arith, front, by.is, own.count, blocks_hold item.len)

pub returns : goal.returns
returns c =
    let i = c.self.inside in
    let next = i.next.items in
    let first = c.first-first.result in
    let k = c.index-count.result.now in
    let item = c.args.item.now in
    let own = owned i.blocks.items next i.counts.items i.head i.free first c.args.self.now item c.self.invariant c.self.view_is c.requires.belongs
    c.first-first.ensures in
    let by = owned_by i.counts.items first item.len k own c.index-count.ensures in
    let front : length (take c.len.result c.args.into.now) ≡ item.len =
    length-take-le c.len.result c.args.into.now (omega (arith, c.len.ensures, c.requires.room)) ∙ c.len.ensures in
    let read : c.copy_out.new.into ≡ bytes_of c.args.self.now item =
    c.copy_out.ensures.bytes ∙ ap (λ n. take n (concat (contents c.deref.result.now (chain c.deref-2.result.now first k)))) front
    ∙ ap (λ bs. take item.len (concat (contents bs (chain c.deref-2.result.now first k)))) c.deref.ensures.value
    ∙ ap (λ ns. take item.len (concat (contents i.blocks.items (chain ns first k)))) c.deref-2.ensures.value
    ∙ bytes_read i.blocks.items next i.counts.items i.free first k c.args.self.now item c.self.view_is c.first-first.ensures by.is in
    record {
      count = c.len-2.ensures;
      bytes = ap (λ bs. bs ++ drop c.len.result c.args.into.now) read ∙ ap (λ n. bytes_of c.args.self.now item ++ drop n c.args.into.now) c.len.ensures;
      len = sym (ap length read) ∙ c.copy_out.ensures.len ∙ front;
    }

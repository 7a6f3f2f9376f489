use Rattle.std.proofs.Common.{◌≡◌, ◌∙◌, ◌-◌, [], length, sym, subst, arith}
use Rattle.record_pool.specs.Chains.{chain}
use Rattle.record_pool.specs.inside.Kept.{Below}
use Rattle.record_pool.proofs.PoolLemmas.{owned_inside, owned_at, ends_at, front_below, last_below, count_most, whole_given_at, pool_given_at, kept_others}
use Rattle.record_pool.proofs.pool.RecordPool.give.Goals as goal

pub index-count-requires : goal.index-count-requires
index-count-requires c =
    let i = c.self.inside in
    owned_inside i.blocks.items i.next.items i.counts.items i.head i.free _ _ c.args.self.now c.args.item c.self.invariant c.self.view_is c.requires
    c.first-first.ensures i.counts.ok.0

pub overflow_sub-count : goal.overflow_sub-count
overflow_sub-count c =
    let i = c.self.inside in
    let by = owned_at i.blocks.items i.next.items i.counts.items i.head i.free c.first-first.result c.index-count.result.now c.args.self.now c.args.item
    c.self.invariant c.self.view_is c.requires c.first-first.ensures c.index-count.ensures in
    omega (arith, by.is, by.own.some)

pub after-last-requires : goal.after-last-requires
after-last-requires c =
    let i = c.self.inside in
    let next = i.next.items in
    let first = c.first-first.result in
    let k = c.index-count.result.now in
    let by = owned_at i.blocks.items next i.counts.items i.head i.free first k c.args.self.now c.args.item c.self.invariant c.self.view_is c.requires
    c.first-first.ensures c.index-count.ensures in
    let inner : Below (length next) (chain next first (k - 1)) =
    subst (λ t. Below t (chain next first (k - 1))) (sym c.self.invariant.links) (front_below next i.counts.items i.head i.free
    (length i.blocks.items) first (k - 1) c.self.invariant by.has) in
    subst (λ ns. Below (length ns) (chain ns first (k - 1))) (sym c.deref.ensures.value) inner

pub index_mut-requires : goal.index_mut-requires
index_mut-requires c =
    let i = c.self.inside in
    let counts = i.counts.items in
    let first = c.first-first.result in
    let by = owned_at i.blocks.items i.next.items counts i.head i.free first c.index-count.result.now c.args.self.now c.args.item c.self.invariant
    c.self.view_is c.requires c.first-first.ensures c.index-count.ensures in
    let ends = ends_at i.next.items _ counts i.free first _ _ _ by c.after-last.ensures c.deref.ensures.value in
    let below = last_below i.next.items counts i.head i.free (length i.blocks.items) first (c.index-count.result.now - 1) c.self.invariant by.has in
    omega (arith, ends.last_is, below, c.self.invariant.links, i.next.ok.0)

pub index_mut-requires-2 : goal.index_mut-requires-2
index_mut-requires-2 c =
    let i = c.self.inside in
    owned_inside i.blocks.items i.next.items i.counts.items i.head i.free _ _ c.args.self.now c.args.item c.self.invariant c.self.view_is c.requires
    c.first-first.ensures i.counts.ok.0

pub overflow_add-self : goal.overflow_add-self
overflow_add-self c =
    let i = c.self.inside in
    let by = owned_at i.blocks.items i.next.items i.counts.items i.head i.free c.first-first.result c.index-count.result.now c.args.self.now c.args.item
    c.self.invariant c.self.view_is c.requires c.first-first.ensures c.index-count.ensures in
    let most = count_most i.next.items i.counts.items i.head i.free (length i.blocks.items) c.first-first.result c.self.invariant by.own.inside in
    omega (arith, by.is, most, c.self.invariant.small)

pub invariant_of-self : goal.invariant_of-self
invariant_of-self c =
    let i = c.self.inside in
    let by = owned_at i.blocks.items i.next.items i.counts.items i.head i.free c.first-first.result c.index-count.result.now c.args.self.now c.args.item
    c.self.invariant c.self.view_is c.requires c.first-first.ensures c.index-count.ensures in
    whole_given_at i.next.items i.counts.items i.head i.free (length i.blocks.items) _ _ _ _ c.self.invariant
    (ends_at i.next.items _ i.counts.items i.free _ _ _ _ by c.after-last.ensures c.deref.ensures.value)

given : goal.returns-clause-pool
given c =
    let i = c.self.inside in
    let by = owned_at i.blocks.items i.next.items i.counts.items i.head i.free c.first-first.result c.index-count.result.now c.args.self.now c.args.item
    c.self.invariant c.self.view_is c.requires c.first-first.ensures c.index-count.ensures in
    pool_given_at i.blocks.items i.next.items i.counts.items i.head i.free _ _ _ c.args.self.now c.args.item c.self.invariant c.self.view_is
    c.first-first.ensures (ends_at i.next.items _ i.counts.items i.free _ _ _ _ by c.after-last.ensures c.deref.ensures.value)

pub returns-clause-pool : goal.returns-clause-pool
returns-clause-pool c = given c

pub returns-clause-kept : goal.returns-clause-kept
returns-clause-kept c = kept_others c.args.self.now _ c.args.item.first _ [] (given c)

use Rattle.std.proofs.Common.{◌≡◌, ◌∙◌, ◌≤◌, ◌<◌, ◌++◌, ◌-◌, length, take, drop, set, sym, subst, ap, arith}
use Rattle.record_pool.specs.Chains.{chain, walk}
use Rattle.record_pool.specs.inside.Kept.{Below, IsWhole}
use Rattle.record_pool.proofs.PoolLemmas.{some_blocks, some_free, taken_below, head_below, whole_taken, written_in, pool_taken, fresh_taken, size_taken}
use Rattle.record_pool.proofs.pool.RecordPool.take_first.Goals as goal

pub copy_in-self-inside-requires-clause-below : goal.copy_in-self-inside-requires-clause-below
copy_in-self-inside-requires-clause-below c =
    let i = c.self.inside in
    let next = i.next.items in
    let same = ap (λ p. p.free) c.self.view_is in
    let inner : Below (length next) (chain next i.head c.args.count) =
    subst (λ t. Below t (chain next i.head c.args.count)) (sym c.self.invariant.links)
    (taken_below next i.counts.items i.head i.free (length i.blocks.items) c.args.count c.self.invariant (omega (arith, c.requires.room, same))) in
    subst (λ ns. Below (length ns) (chain ns i.head c.args.count)) (sym c.deref.ensures.value) inner

pub index_mut-requires : goal.index_mut-requires
index_mut-requires c =
    let i = c.self.inside in
    let below = head_below i.next.items i.counts.items i.head i.free (length i.blocks.items) c.self.invariant
    (some_free c.args.count i.free _ (length c.args.bytes.now) c.requires.count c.requires.room (ap (λ p. p.free) c.self.view_is)) in
    omega (arith, below, c.self.invariant.counted, i.counts.ok.0)

pub invariant_of-self : goal.invariant_of-self
invariant_of-self c =
    let i = c.self.inside in
    let next = i.next.items in
    let blocks = i.blocks.items in
    let count = c.args.count in
    let counts = set i.counts.items i.head count in
    let new = c.copy_in-self-inside.new.blocks in
    let some : 1 ≤ count = subst (λ k. 1 ≤ k) (sym c.requires.count) (some_blocks (length c.args.bytes.now)) in
    let room : count ≤ i.free = omega (arith, c.requires.room, ap (λ p. p.free) c.self.view_is) in
    let written = written_in blocks _ new next _ i.head count i.blocks.len c.args.bytes.now i.blocks.ok.0 c.copy_in-self-inside.ensures.blocks
    c.deref_mut.ensures.value c.deref.ensures.value in
    let after : c.copy_in-self-inside.result ≡ walk next i.head count = c.copy_in-self-inside.ensures.after ∙ ap (λ ns. walk ns i.head count)
    c.deref.ensures.value in
    subst (λ t. IsWhole next counts c.copy_in-self-inside.result (i.free - count) t) (sym (ap length written.kept ∙ written.long))
    (subst (λ n. IsWhole next counts n (i.free - count) (length blocks)) (sym after)
    (whole_taken next i.counts.items i.head i.free (length blocks) count c.self.invariant some room))

pub returns-clause-fresh : goal.returns-clause-fresh
returns-clause-fresh c =
    let i = c.self.inside in
    fresh_taken i.blocks.items i.next.items i.counts.items i.head i.free c.new.result.first c.args.self.now c.self.invariant c.self.view_is
    (some_free c.args.count i.free _ _ c.requires.count c.requires.room (ap (λ p. p.free) c.self.view_is)) (ap (λ r. r.first) c.new.ensures)

pub returns-clause-size : goal.returns-clause-size
returns-clause-size c =
    let i = c.self.inside in
    size_taken i.blocks.items i.next.items i.counts.items i.head i.free c.new.result.first c.args.self.now c.self.invariant c.self.view_is
    (some_free c.args.count i.free _ _ c.requires.count c.requires.room (ap (λ p. p.free) c.self.view_is)) (ap (λ r. r.first) c.new.ensures)

pub returns-clause-pool : goal.returns-clause-pool
returns-clause-pool c =
    let i = c.self.inside in
    let next = i.next.items in
    let blocks = i.blocks.items in
    let count = c.args.count in
    let new = c.copy_in-self-inside.new.blocks in
    let some : 1 ≤ count = subst (λ k. 1 ≤ k) (sym c.requires.count) (some_blocks (length c.args.bytes.now)) in
    let room : count ≤ i.free = omega (arith, c.requires.room, ap (λ p. p.free) c.self.view_is) in
    let written = written_in blocks _ new next _ i.head count i.blocks.len c.args.bytes.now i.blocks.ok.0 c.copy_in-self-inside.ensures.blocks
    c.deref_mut.ensures.value c.deref.ensures.value in
    pool_taken blocks (take i.blocks.len (new ++ drop (length new) blocks)) next i.counts.items i.head i.free count c.new.result.first c.args.bytes.now
    c.args.self.now
    c.self.invariant c.self.view_is some room (ap (λ r. r.first) c.new.ensures) c.requires.count (written.kept ∙ written.is)

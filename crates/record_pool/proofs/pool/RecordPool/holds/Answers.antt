use Rattle.std.proofs.Common.{◌≡◌, ◌∙◌, ◌≤◌, ◌<◌, length, get_or, true≢false, sym, ap, arith}
use Rattle.std.proofs.lemmas.Bool.{eqb-true, eq-eqb}
use Rattle.std.proofs.lemmas.Grind.{get_or_default_zero}
use Rattle.record_pool.specs.Pools.{blocks_for}
use Rattle.record_pool.proofs.PoolLemmas.{count_of, belongs_by, not_past}
use Rattle.record_pool.proofs.pool.RecordPool.holds.Goals as goal

pub returns-then-first-len : goal.returns-then-first-len
returns-then-first-len c =
    let i = c.self.inside in
    let counts = i.counts.items in
    let past : length counts ≤ c.args.item.now.first = omega (arith, c.if-first-len.true, c.len.ensures, i.counts.ok.0, c.first-first.ensures) in (
      (λ e. absurd (true≢false (sym e))),
      (λ belongs. absurd (not_past i.blocks.items i.next.items counts i.free c.args.self.now c.args.item.now c.self.view_is past belongs)),
    )

pub returns : goal.returns
returns c =
    let i = c.self.inside in
    let counts = i.counts.items in
    let first = c.first-first.result in
    let item = c.args.item.now in
    let inside : first < length counts = omega (arith, c.if-first-len.false, c.len.ensures, i.counts.ok.0) in
    let has : c.from.result ≡ get_or counts item.first 0 =
    c.from.ensures ∙ c.index.ensures ∙ get_or_default_zero counts first c.index.result.now inside ∙ ap (λ n. get_or counts n 0) c.first-first.ensures in
    let need : c.needed.result ≡ blocks_for item.len = c.needed.ensures ∙ ap blocks_for c.len-2.ensures in (
      (λ e. belongs_by i.blocks.items i.next.items counts i.free c.args.self.now item c.self.view_is (sym has ∙ eqb-true c.from.result c.needed.result e ∙
          need)),
      (λ belongs. eq-eqb c.from.result c.needed.result
          (has ∙ count_of i.blocks.items i.next.items counts i.free c.args.self.now item c.self.view_is belongs ∙ sym need)),
    )

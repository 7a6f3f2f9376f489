use Rattle.std.proofs.Common.{◌≡◌, ◌∙◌, ◌++◌, ◌∷◌, ◌+◌, [], ap, arith}
use Rattle.record_pool.specs.Chains.{numbers_from}
use Rattle.record_pool.proofs.ChainLemmas.{numbers_from_push}
use Rattle.record_pool.proofs.pool.following.Goals as goal

pub loop-number-preserved : goal.loop-number-preserved
loop-number-preserved c =
    let number = c.loop-number.number in
    let e : number + 1 ≡ 1 + number = omega arith in
    c.in_ok-push.ensures.items ∙ ap (λ xs. xs ++ (number + 1) ∷ []) c.loop-number.invariant ∙ ap (λ m. numbers_from 1 number ++ m ∷ []) e ∙
    numbers_from_push 1 number

use Rattle.std.proofs.Common.{ℕ, ◌^◌, ◌≤◌, arith, lit<}
use Rattle.std.proofs.lemmas.Grind.{common_steps}
use Rattle.std.proofs.Math.Nat.{pow-le-pow_right}
use Rattle.record_codec.proofs.decimal.number.Goals as goal

-- fewer digits, a lesser bound
ten_le : (i j : ℕ) → i ≤ j → 10 ^ i ≤ 10 ^ j
ten_le i j h = pow-le-pow_right {n = 10} (lit< tt) {i = i} {j = j} h

pub overflow_mul-value : goal.overflow_mul-value
overflow_mul-value c =
    let most : 10 ^ c.loop-digit.digit-index ≤ 10 ^ 17 = ten_le _ 17 (omega arith) in
    grind (arith, common_steps)

pub overflow_add-value : goal.overflow_add-value
overflow_add-value c =
    let most : 10 ^ c.loop-digit.digit-index ≤ 10 ^ 17 = ten_le _ 17 (omega arith) in
    grind (arith, common_steps)

pub returns-clause-below : goal.returns-clause-below
returns-clause-below c =
    let most : 10 ^ c.loop-digit.digit-index ≤ 10 ^ c.args.most = ten_le _ _ (omega arith) in
    omega arith

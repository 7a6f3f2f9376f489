use Rattle.std.proofs.Common.{◌≡◌, ◌≤◌, ◌+◌, ◌*◌, ◌++◌, length, drop, codes, decimal}
use Rattle.std.specs.List.{flat_map}
use Rattle.app_law.specs.Banks.{bank_shown}
use Rattle.app_law.proofs.bank.BankApp.show.Given as goal

abbrev pub invariant-loop-balance : goal.invariant-loop-balance
invariant-loop-balance l = record {
  shown : l.shown ++ flat_map (λ n. codes " " ++ decimal n) (drop l.balance-index l.balance-items) ≡ bank_shown l.self;
  short : length l.shown ≤ 20 + 21 * l.balance-index;
}

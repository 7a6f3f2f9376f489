-- The bank: eight accounts, deposits and moves.
use Rattle.std.specs.Prelude.{ℕ, ◌+◌, ◌-◌, ◌^◌, ◌<◌, Bool, ◌==◌, ◌&&◌, ◌||◌, nat_le, List, [], ◌∷◌, get_or, slice_set, Option, Some, None, if◌then◌else◌, codes, decimal}
use Rattle.std.specs.Int.{is_in_range}
use Rattle.std.specs.List.{join_by}
use Rattle.std.specs.Str.{bytes_eq}
use Rattle.record_codec.specs.declared.record.Record.{Record}
use Rattle.record_codec.specs.declared.record.Record.TheVariants.{Data, Noop}
use Rattle.app_law.specs.declared.bank_order.BankOrder.{BankOrder}
use Rattle.app_law.specs.declared.bank_order.BankOrder.TheVariants.{Deposit, Move}
use Rattle.record_codec.specs.Decimals.{number_in}
use Rattle.app_law.specs.Words.{words}

-- an account: one digit from 0 to 7
abbrev pub account_in : List ℕ → Option ℕ
account_in (digit ∷ []) = if is_in_range 48 55 digit then Some (digit - 48) else None
account_in _ = None

abbrev pub deposit_of : Option ℕ → Option ℕ → Option BankOrder
deposit_of (Some account) (Some amount) = Some (Deposit account amount)
deposit_of _ _ = None

abbrev pub move_of : Option ℕ → Option ℕ → Option ℕ → Option BankOrder
move_of (Some from) (Some to) (Some amount) = Some (Move from to amount)
move_of _ _ _ = None

-- what words ask of the bank: `d A N` or `t A B N`
abbrev pub bank_order_of : List (List ℕ) → Option BankOrder
bank_order_of (verb ∷ a ∷ n ∷ []) =
    if bytes_eq verb (codes "d") then deposit_of (account_in a) (number_in 12 n) else None
bank_order_of (verb ∷ a ∷ b ∷ n ∷ []) =
    if bytes_eq verb (codes "t") then move_of (account_in a) (account_in b) (number_in 12 n) else None
bank_order_of _ = None

-- accounts from 0 to 7, and an amount of at most 12 digits
abbrev pub IsOrder : BankOrder → Type 0
IsOrder (Deposit account amount) = (account < 8) × (amount < 10 ^ 12)
IsOrder (Move from to amount) = (from < 8) × (to < 8) × (amount < 10 ^ 12)

-- the balance of an account
abbrev pub balance : List ℕ → ℕ → ℕ
balance balances account = get_or balances account 0

-- the account can take the amount in
abbrev pub takes : List ℕ → ℕ → ℕ → Bool
takes balances account amount = nat_le (balance balances account + amount) (10 ^ 15)

abbrev pub with_deposit : List ℕ → ℕ → ℕ → List ℕ
with_deposit balances account amount = slice_set balances account (balance balances account + amount)

-- no balance would be passed or fall short
abbrev pub is_done : List ℕ → BankOrder → Bool
is_done balances (Deposit account amount) = takes balances account amount
is_done balances (Move from to amount) =
    nat_le amount (balance balances from) && ((from == to) || takes balances to amount)

-- the balances once an order is done; a move of an account to itself changes nothing
abbrev pub when_done : List ℕ → BankOrder → List ℕ
when_done balances (Deposit account amount) = with_deposit balances account amount
when_done balances (Move from to amount) =
    if from == to then balances
    else slice_set (with_deposit balances to amount) from (balance balances from - amount)

-- the balances after a body that may ask for something
abbrev pub bank_after : List ℕ → Option BankOrder → List ℕ
bank_after balances (Some order) = if is_done balances order then when_done balances order else balances
bank_after balances None = balances

abbrev pub bank_answer : List ℕ → Option BankOrder → List ℕ
bank_answer balances (Some order) = if is_done balances order then codes "ok\n" else codes "no\n"
bank_answer balances None = codes "?\n"

abbrev pub bank_next : List ℕ → Record → List ℕ
bank_next balances (Data client number body) = bank_after balances (bank_order_of (words body))
bank_next balances Noop = balances

abbrev pub bank_output : List ℕ → Record → List ℕ
bank_output balances (Data client number body) = bank_answer balances (bank_order_of (words body))
bank_output balances Noop = []

-- the eight balances, one space between
abbrev pub bank_shown : List ℕ → List ℕ
bank_shown balances = join_by decimal (codes " ") balances

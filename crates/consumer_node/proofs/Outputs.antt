-- What the application of any kind writes for a record after others has at most 64 bytes.
use Rattle.std.proofs.Common.{◌≡◌, ℕ, ◌+◌, ◌≤◌, ◌^◌, List, [], ◌∷◌, length, length-append, codes, decimal, Option, Some, None, refl, sym, ◌∙◌, subst, arith}
use Rattle.std.specs.Prelude.{nat_le, if◌then◌else◌}
use Rattle.std.specs.Option.{unwrap_or}
use Rattle.std.specs.Ordering.{nat_cmp, eq_by_cmp}
use Rattle.std.specs.Cmp.Lexicographic.{slice_cmp}
use Rattle.std.specs.FinMap as entries
use Rattle.std.specs.Str.{bytes_eq}
use Rattle.std.specs.Str.Parse.{digits_value}
use Rattle.std.proofs.lemmas.Bool.{cond_both, and_parts, leb-true}
use Rattle.std.proofs.lemmas.Cmp.{nat_list_cmp_total}
use Rattle.std.proofs.lemmas.Fmt.{length-decimal-le}
use Rattle.record_codec.specs.declared.record.Record.{Record}
use Rattle.record_codec.specs.declared.record.Record.TheVariants.{Data, Noop}
use Rattle.record_codec.specs.declared.app_kind.AppKind.{AppKind}
use Rattle.record_codec.specs.declared.app_kind.AppKind.TheVariants as kinds
use Rattle.app_law.specs.declared.any_app.AnyApp.{AnyApp}
use Rattle.app_law.specs.declared.any_app.AnyApp.TheVariants.{Tally, Bank, Kv}
use Rattle.app_law.specs.declared.bank_order.BankOrder.{BankOrder}
use Rattle.app_law.specs.declared.kv_order.KvOrder.{KvOrder}
use Rattle.app_law.specs.declared.kv_order.KvOrder.TheVariants.{Set, Get, Del}
use Rattle.app_law.specs.AnyApps.{any_fresh, any_next, any_output}
use Rattle.app_law.specs.Banks.{bank_answer, bank_output, is_done}
use Rattle.record_codec.specs.Decimals.{is_decimal}
use Rattle.app_law.specs.Folds.{fold_of}
use Rattle.app_law.specs.KvOrders.{set_of, get_of, del_of, kv_order_of}
use Rattle.app_law.specs.Kvs.{KvState, is_full_for, kv_after, kv_next, kv_answer, kv_output}
use Rattle.app_law.specs.Tallies.{TallyState, is_added, tally_output}
use Rattle.app_law.specs.Words.{words, is_printable, printable_in}
use Rattle.consumer_node.specs.Apps.{any_meaning}
use Rattle.consumer_node.proofs.Reached.{OutputsFitFrom}

abbrev IsShort : List ℕ → Type 0
IsShort text = length text ≤ 64

-- ---- a tally and a bank, in whatever state

tally_short : (t : TallyState) (rec : Record) → IsShort (tally_output t rec)
tally_short t (Data client number body) =
    let sum = t.total + digits_value 10 body in
    let text : length (if is_added t body then decimal sum else codes "?") ≤ 19 =
    cond_both (is_added t body) (decimal sum) (codes "?") (λ text. length text ≤ 19)
    (λ added.
    let most = leb-true sum (10 ^ 18) (and_parts (is_decimal 9 body) (nat_le sum (10 ^ 18)) added).1 in
    length-decimal-le 19 sum (omega arith) (omega (arith, most)) (omega (arith, most)))
    (λ _. omega arith)
    in
    omega (arith, text, length-append (if is_added t body then decimal sum else codes "?") (codes "\n"))
tally_short t Noop = omega arith

bank_answer_short : (balances : List ℕ) (order : Option BankOrder) → IsShort (bank_answer balances order)
bank_answer_short balances None = omega arith
bank_answer_short balances (Some order) = cond_both (is_done balances order) (codes "ok\n") (codes "no\n") IsShort (λ _. omega arith) (λ _. omega arith)

bank_short : (balances : List ℕ) (rec : Record) → IsShort (bank_output balances rec)
bank_short balances (Data client number body) = bank_answer_short balances _
bank_short balances Noop = omega arith

-- ---- a store whose values have at most 32 bytes

abbrev HasShortValues : KvState → Type 0
HasShortValues kv = (key value : List ℕ) → entries.get kv key ≡ Some value → length value ≤ 32

abbrev AsksShort : Option KvOrder → Type 0
AsksShort (Some (Set key value)) = length value ≤ 32
AsksShort _ = Unit {0}

asks_of : (make : Option (List ℕ) → Option KvOrder) → AsksShort (make None) → ((key : List ℕ) → AsksShort (make (Some key))) → (key : Option (List ℕ))
    → AsksShort (make key)
asks_of make none some None = none
asks_of make none some (Some key) = some key

asks_set : (key value : List ℕ) → AsksShort (set_of (printable_in 8 key) (printable_in 32 value))
asks_set key value =
    cond_both (is_printable 32 value) (Some value) None (λ found. AsksShort (set_of (printable_in 8 key) found))
    (λ fits.
    let most = (and_parts (nat_le (length value) 32) _ (and_parts (nat_le 1 (length value)) _ fits).1).0 in
    asks_of (λ found. set_of found (Some value)) tt (λ _. leb-true (length value) 32 most) (printable_in 8 key))
    (λ _. asks_of (λ found. set_of found None) tt (λ _. tt) (printable_in 8 key))

asks_short : (text : List (List ℕ)) → AsksShort (kv_order_of text)
asks_short [] = tt
asks_short (verb ∷ []) = tt
asks_short (verb ∷ key ∷ []) =
    cond_both (bytes_eq verb (codes "get")) (get_of (printable_in 8 key)) _ AsksShort (λ _. asks_of get_of tt (λ _. tt) (printable_in 8 key))
    (λ _. cond_both (bytes_eq verb (codes "del")) (del_of (printable_in 8 key)) None AsksShort (λ _. asks_of del_of tt (λ _. tt) (printable_in 8 key)) (λ _. tt))
asks_short (verb ∷ key ∷ value ∷ []) =
    cond_both (bytes_eq verb (codes "set")) (set_of (printable_in 8 key) (printable_in 32 value)) None AsksShort (λ _. asks_set key value) (λ _. tt)
asks_short (verb ∷ key ∷ value ∷ more ∷ rest) = tt

short_inserted : (kv : KvState) (key value : List ℕ) → length value ≤ 32 → HasShortValues kv → HasShortValues (entries.insert kv key value)
short_inserted kv key value short h other found e =
    cond_both (eq_by_cmp (slice_cmp nat_cmp) other key) (Some value) (entries.get kv other) (λ x. x ≡ Some found → length found ≤ 32)
    (λ _ is. let same : value ≡ found = cc in subst (λ v. length v ≤ 32) same short)
    (λ _ is. h other found is)
    (sym (entries.get-insert nat_list_cmp_total kv key value other) ∙ e)

short_removed : (kv : KvState) (key : List ℕ) → HasShortValues kv → HasShortValues (entries.remove kv key)
short_removed kv key h other found e =
    cond_both (eq_by_cmp (slice_cmp nat_cmp) other key) None (entries.get kv other) (λ x. x ≡ Some found → length found ≤ 32)
    (λ _ is. absurd (cc))
    (λ _ is. h other found is)
    (sym (entries.get-remove nat_list_cmp_total kv key other) ∙ e)

short_after : (kv : KvState) (order : Option KvOrder) → AsksShort order → HasShortValues kv → HasShortValues (kv_after kv order)
short_after kv (Some (Set key value)) asks h =
    cond_both (is_full_for kv key) kv (entries.insert kv key value) HasShortValues (λ _. h) (λ _. short_inserted kv key value asks h)
short_after kv (Some (Del key)) asks h = short_removed kv key h
short_after kv _ asks h = h

short_next : (kv : KvState) (rec : Record) → HasShortValues kv → HasShortValues (kv_next kv rec)
short_next kv (Data client number body) h = short_after kv (kv_order_of (words body)) (asks_short (words body)) h
short_next kv Noop h = h

got_short : (kv : KvState) (key : List ℕ) (found : Option (List ℕ)) → entries.get kv key ≡ found → HasShortValues kv → length (unwrap_or found (codes "-")) ≤ 32
got_short kv key None e h = omega arith
got_short kv key (Some value) e h = h key value e

kv_answer_short : (kv : KvState) (order : Option KvOrder) → HasShortValues kv → length (kv_answer kv order) ≤ 32
kv_answer_short kv None h = omega arith
kv_answer_short kv (Some (Set key value)) h = cond_both (is_full_for kv key) (codes "full") (codes "ok") (λ text. length text ≤ 32) (λ _. omega arith) (λ _. omega arith)
kv_answer_short kv (Some (Get key)) h = got_short kv key (entries.get kv key) refl h
kv_answer_short kv (Some (Del key)) h = cond_both (entries.contains_key kv key) (codes "ok") (codes "-") (λ text. length text ≤ 32) (λ _. omega arith) (λ _. omega arith)

kv_short : (kv : KvState) (rec : Record) → HasShortValues kv → IsShort (kv_output kv rec)
kv_short kv (Data client number body) h =
    let answer = kv_answer kv (kv_order_of (words body)) in
    omega (arith, kv_answer_short kv (kv_order_of (words body)) h, length-append answer (codes "\n"))
kv_short kv Noop h = omega arith

-- ---- each of them

abbrev IsFitting : AnyApp → Type 0
IsFitting (Kv kv) = HasShortValues kv
IsFitting _ = Unit {0}

none_found : (value : List ℕ) → None ≡ Some value → length value ≤ 32
none_found value e = absurd (cc)

fitting_fresh : (kind : AppKind) → IsFitting (any_fresh kind)
fitting_fresh kinds.Tally = tt
fitting_fresh kinds.Bank = tt
fitting_fresh kinds.Kv = λ key value e.
    let fresh : KvState = entries.empty in
    let none : entries.get fresh key ≡ None = entries.get-empty (slice_cmp nat_cmp) key in
    none_found value (sym none ∙ e)

fitting_next : (state : AnyApp) (rec : Record) → IsFitting state → IsFitting (any_next state rec)
fitting_next (Kv kv) rec h = short_next kv rec h
fitting_next _ rec h = tt

fitting_after : (state : AnyApp) (log : List Record) → IsFitting state → IsFitting (fold_of any_next state log)
fitting_after state [] h = h
fitting_after state (rec ∷ log) h = fitting_after (any_next state rec) log (fitting_next state rec h)

output_short : (state : AnyApp) (rec : Record) → IsFitting state → IsShort (any_output state rec)
output_short (Tally t) rec h = tally_short t rec
output_short (Bank balances) rec h = bank_short balances rec
output_short (Kv kv) rec h = kv_short kv rec h

pub any_outputs_fit : (kind : AppKind) → OutputsFitFrom any_meaning (any_fresh kind)
any_outputs_fit kind state rec reached valid = output_short state rec (subst IsFitting (sym reached.is) (fitting_after (any_fresh kind) reached.log (fitting_fresh kind)))

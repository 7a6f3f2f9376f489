-- A client's numbers in a log that run on from a first one, without runs: with one record more, in a beginning, and which one is expected.
use Rattle.std.proofs.Common.{◌≡◌, ◌∙◌, ℕ, zero, suc, ◌+◌, ◌==◌, false, List, [], ◌∷◌, ◌++◌, length, take, append-nil, Some, None, refl, sym, ap, subst}
use Rattle.std.specs.List.{AllByRecursion, range_with_len, slice_get, cons_option}
use Rattle.std.proofs.lemmas.Bool.{cond-true, cond-false, eq-eqb}
use Rattle.std.proofs.lemmas.List.{length-append}
use Rattle.std.proofs.lemmas.List.Elements.{filter_map-append}
use Rattle.std.proofs.lemmas.Option.{same_Some}
use Rattle.fix_ante.proofs.LocalLemmas.{range_with_len_append}
use Rattle.shard_log.specs.Records.{number_by}
use Rattle.shard_log.specs.ShardLog.{numbers_of, expected_of, append_from_log}
use Rattle.shard_log.specs.Calls.{numbers_from}
use Rattle.shard_log.proofs.NumberLemmas.{StandFrom, StandFrom_take, StandFrom_append_from}
use Rattle.runs.specs.Names.{Record}
use Rattle.runs.specs.Names.records
use Rattle.runs.specs.Marks.{IsPrefix, number_of_client, numbers_of_client}
use Rattle.safety_clients.specs.Records.{RunFrom}
use Rattle.safety_clients.proofs.Chains.{at_end}

-- ---- two names of the numbers

same_number : (client : ℕ) (rec : Record) (rest : List Record) → numbers_of_client client rest ≡ numbers_of client rest
    → numbers_of_client client (rec ∷ rest) ≡ numbers_of client (rec ∷ rest)
same_number client records.Noop rest same = same
same_number client (records.Data owner number body) rest same = ap (cons_option (number_by client (records.Data owner number body))) same

pub same_numbers : (client : ℕ) (log : List Record) → numbers_of_client client log ≡ numbers_of client log
same_numbers client [] = refl
same_numbers client (rec ∷ rest) = same_number client rec rest (same_numbers client rest)

same_range : (first count : ℕ) → numbers_from first count ≡ range_with_len first count
same_range first zero = refl
same_range first (suc count) = ap (λ l. first ∷ l) (same_range (first + 1) count)

stand : (client first : ℕ) (log : List Record) → RunFrom first (numbers_of_client client log) → StandFrom client first log
stand client first log run =
    subst (λ l. l ≡ numbers_from first (length l)) (same_numbers client log) (run ∙ sym (same_range first (length (numbers_of_client client log))))

run_of : (client first : ℕ) (log : List Record) → StandFrom client first log → RunFrom first (numbers_of_client client log)
run_of client first log stands =
    subst (RunFrom first) (sym (same_numbers client log)) (stands ∙ same_range first (length (numbers_of client log)))

pub run_none : (first : ℕ) (numbers : List ℕ) → numbers ≡ [] → RunFrom first numbers
run_none first numbers none = subst (RunFrom first) (sym none) refl

-- ---- a record more

pub run_push : (client first owner begin number : ℕ) (body : List ℕ) (log : List Record) → number ≡ expected_of owner begin log
    → RunFrom first (numbers_of_client client log)
    → (numbers_of_client client log ≡ [] → owner ≡ client → begin ≡ first)
    → RunFrom first (numbers_of_client client (log ++ records.Data owner number body ∷ []))
run_push client first owner begin number body log is run empty =
    let more = log ++ records.Data owner number body ∷ [] in
    let taken : append_from_log owner begin number body log ≡ more = cond-true _ more log (eq-eqb number (expected_of owner begin log) is) in
    run_of client first more
    (subst (StandFrom client first) taken
    (StandFrom_append_from client first owner begin number body log (stand client first log run) (λ none same. empty (same_numbers client log ∙ none) same)))

-- the number of a client's own record
pub own_number : (client number : ℕ) (body : List ℕ) → number_of_client client (records.Data client number body) ≡ Some number
own_number client number body = cond-true (client == client) (Some number) None (eq-eqb client client refl)

numbers_push : (client number : ℕ) (body : List ℕ) (log : List Record)
    → numbers_of_client client (log ++ records.Data client number body ∷ []) ≡ numbers_of_client client log ++ number ∷ []
numbers_push client number body log =
    filter_map-append (number_of_client client) log (records.Data client number body ∷ [])
    ∙ ap (λ o. numbers_of_client client log ++ cons_option o []) (own_number client number body)

range_push : (first count : ℕ) → range_with_len first (count + 1) ≡ range_with_len first count ++ (first + count) ∷ []
range_push first count = sym (range_with_len_append first count 1)

-- the number that a log expects follows those that it has
pub expected_is : (client first begin : ℕ) (log : List Record) → RunFrom first (numbers_of_client client log)
    → (numbers_of_client client log ≡ [] → begin ≡ first) → expected_of client begin log ≡ first + length (numbers_of_client client log)
expected_is client first begin log run empty =
    let numbers = numbers_of_client client log in
    let next = expected_of client begin log in
    let pushed : RunFrom first (numbers ++ next ∷ []) =
    subst (RunFrom first) (numbers_push client next [] log) (run_push client first client begin next [] log refl run (λ none same. empty none)) in
    let long : length (numbers ++ next ∷ []) ≡ length numbers + 1 = length-append numbers (next ∷ []) in
    let split : numbers ++ next ∷ [] ≡ numbers ++ (first + length numbers) ∷ [] =
    pushed ∙ (ap (range_with_len first) long ∙ (range_push first (length numbers) ∙ ap (λ l. l ++ (first + length numbers) ∷ []) (sym run))) in
    same_Some next (first + length numbers)
    (sym (at_end numbers next) ∙ (ap (λ l. slice_get l (length numbers)) split ∙ at_end numbers (first + length numbers)))

-- ---- a beginning

pub run_front : (client first end : ℕ) (log : List Record) → RunFrom first (numbers_of_client client log)
    → RunFrom first (numbers_of_client client (take end log))
run_front client first end log run = run_of client first (take end log) (StandFrom_take client first end log (stand client first log run))

-- no numbers in a log, none in a beginning of it
pub none_in_front : (client : ℕ) (front whole : List Record) → IsPrefix front whole → numbers_of_client client whole ≡ [] → numbers_of_client client front ≡ []
none_in_front client front whole p none =
    front_nil (numbers_of_client client front) (numbers_of_client client p.0)
    (sym (ap (numbers_of_client client) p.1 ∙ filter_map-append (number_of_client client) front p.0) ∙ none)
  where
    front_nil : (xs ys : List ℕ) → xs ++ ys ≡ [] → xs ≡ []
    front_nil [] ys e = refl
    front_nil (x ∷ xs) ys e = absurd (cc)

-- ---- records of others

pub numbers_others : (client : ℕ) (log more : List Record) → AllByRecursion (λ rec. number_of_client client rec ≡ None) more
    → numbers_of_client client (log ++ more) ≡ numbers_of_client client log
numbers_others client log more others =
    filter_map-append (number_of_client client) log more
    ∙ (ap (λ l. numbers_of_client client log ++ l) (none_of client more others) ∙ append-nil (numbers_of_client client log))
  where
    none_of : (client : ℕ) (more : List Record) → AllByRecursion (λ rec. number_of_client client rec ≡ None) more → numbers_of_client client more ≡ []
    none_of client [] others = refl
    none_of client (rec ∷ more) others = ap (λ o. cons_option o (numbers_of_client client more)) others.0 ∙ none_of client more others.1

pub other_owner : (client owner number : ℕ) (body : List ℕ) → (owner == client) ≡ false → number_of_client client (records.Data owner number body) ≡ None
other_owner client owner number body other = cond-false (owner == client) (Some number) None other

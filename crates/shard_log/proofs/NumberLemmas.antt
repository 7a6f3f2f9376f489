-- A client's numbers in a log run on by one from its first, also with one record more.
use Rattle.std.proofs.Common.{◌≡◌, ℕ, zero, suc, ◌+◌, ◌==◌, List, [], ◌∷◌, ◌++◌, length, take, drop, Option, Some, None, unwrap_or, refl, sym, ap, ◌∙◌, append-nil, add-zero, inl, inr, arith}
use Rattle.std.specs.Option.{option_or, option_map, option_to_list}
use Rattle.std.specs.List.{cons_option}
use Rattle.std.proofs.lemmas.Bool.{cond_both, cond-true, cond-false, cases_Bool, eqb-true}
use Rattle.std.proofs.lemmas.List.{take-append-drop, length_push}
use Rattle.std.proofs.lemmas.List.Elements.{filter_map-append}
use Rattle.record_codec.specs.declared.record.Record.{Record}
use Rattle.record_codec.specs.declared.record.Record.TheVariants.{Data}
use Rattle.shard_log.specs.Records.{number_by}
use Rattle.shard_log.specs.ShardLog.{numbers_of, last_of, expected_of, append_from_log}
use Rattle.shard_log.specs.Calls.{numbers_from, IsConsecutive}
use Rattle.shard_log.proofs.PlaceLemmas.{option_or_none, cons_option_nil}

-- the client's numbers rise by one from this first one
abbrev pub StandFrom : ℕ → ℕ → List Record → Type 0
StandFrom client first log = numbers_of client log ≡ numbers_from first (length (numbers_of client log))

-- the last of numbers
abbrev last_in : List ℕ → Option ℕ
last_in [] = None
last_in (x ∷ xs) = option_or (last_in xs) (Some x)

last_in_cons_option : (o : Option ℕ) (xs : List ℕ) → last_in (cons_option o xs) ≡ option_or (last_in xs) o
last_in_cons_option None xs = sym (option_or_none (last_in xs))
last_in_cons_option (Some x) xs = refl

last_of_numbers : (client : ℕ) (log : List Record) → last_of client log ≡ last_in (numbers_of client log)
last_of_numbers client [] = refl
last_of_numbers client (r ∷ rest) =
    ap (λ o. option_or o (number_by client r)) (last_of_numbers client rest) ∙ sym (last_in_cons_option (number_by client r) (numbers_of client rest))

last_in_numbers_from : (first n : ℕ) → last_in (numbers_from first (suc n)) ≡ Some (first + n)
last_in_numbers_from first zero = ap Some (sym (add-zero first))
last_in_numbers_from first (suc n) =
    ap (λ o. option_or o (Some first)) (last_in_numbers_from (first + 1) n) ∙ (let sum : first + 1 + n ≡ first + suc n = omega arith in ap Some sum)

expected_run : (first begin n : ℕ) (xs : List ℕ) → xs ≡ numbers_from first n → (xs ≡ [] → begin ≡ first)
    → unwrap_or (option_map (λ n. n + 1) (last_in xs)) begin ≡ first + n
expected_run first begin zero xs run empty = rw run (empty run ∙ sym (add-zero first))
expected_run first begin (suc n) xs run empty =
    rw run (ap (λ o. unwrap_or (option_map (λ n. n + 1) o) begin) (last_in_numbers_from first n) ∙ (let sum : first + n + 1 ≡ first + suc n = omega arith in sum))

-- the number that a log expects of a client follows those that it has
expected_of_run : (client first begin : ℕ) (log : List Record) → StandFrom client first log → (numbers_of client log ≡ [] → begin ≡ first)
    → expected_of client begin log ≡ first + length (numbers_of client log)
expected_of_run client first begin log run empty =
    ap (λ o. unwrap_or (option_map (λ n. n + 1) o) begin) (last_of_numbers client log) ∙ expected_run first begin (length (numbers_of client log)) (numbers_of client log) run empty

numbers_from_push : (first n : ℕ) → numbers_from first n ++ (first + n) ∷ [] ≡ numbers_from first (suc n)
numbers_from_push first zero = ap (λ x. x ∷ []) (add-zero first)
numbers_from_push first (suc n) =
    let sum : first + suc n ≡ first + 1 + n = omega arith in
    ap (λ x. first ∷ (numbers_from (first + 1) n ++ x ∷ [])) sum ∙ ap (λ xs. first ∷ xs) (numbers_from_push (first + 1) n)

-- numbers that run on, with the next one at their end, run on
run_push : (first : ℕ) (xs : List ℕ) (x : ℕ) → xs ≡ numbers_from first (length xs) → x ≡ first + length xs
    → xs ++ x ∷ [] ≡ numbers_from first (length (xs ++ x ∷ []))
run_push first xs x run next =
    let len : length (xs ++ x ∷ []) ≡ suc (length xs) = omega (arith, length_push xs x) in
    ap (λ ys. ys ++ x ∷ []) run ∙ ap (λ y. numbers_from first (length xs) ++ y ∷ []) next ∙ numbers_from_push first (length xs) ∙ ap (numbers_from first) (sym len)

-- the front of numbers that run on runs on
run_front : (first n : ℕ) (xs ys : List ℕ) → xs ++ ys ≡ numbers_from first n → xs ≡ numbers_from first (length xs)
run_front first n [] ys e = refl
run_front first zero (x ∷ xs) ys e = absurd (cc)
run_front first (suc n) (x ∷ xs) ys e =
    let head : x ≡ first = cc in
    let tail : xs ++ ys ≡ numbers_from (first + 1) n = cc in
    ap (λ y. y ∷ xs) head ∙ ap (λ zs. first ∷ zs) (run_front (first + 1) n xs ys tail)

pub StandFrom_take : (client first end : ℕ) (log : List Record) → StandFrom client first log → StandFrom client first (take end log)
StandFrom_take client first end log run =
    let split : numbers_of client (take end log) ++ numbers_of client (drop end log) ≡ numbers_of client log =
    sym (filter_map-append (number_by client) (take end log) (drop end log)) ∙ ap (numbers_of client) (take-append-drop end log) in
    run_front first (length (numbers_of client log)) (numbers_of client (take end log)) (numbers_of client (drop end log)) (split ∙ run)

pub IsConsecutive_from_run : (first : ℕ) (xs : List ℕ) → xs ≡ numbers_from first (length xs) → IsConsecutive xs
IsConsecutive_from_run first [] run = tt
IsConsecutive_from_run first (x ∷ xs) run =
    let head : x ≡ first = cc in
    let tail : xs ≡ numbers_from (first + 1) (length xs) = cc in
    tail ∙ ap (λ y. numbers_from (y + 1) (length xs)) (sym head)

numbers_of_push : (client : ℕ) (log : List Record) (rec : Record)
    → numbers_of client (log ++ rec ∷ []) ≡ numbers_of client log ++ option_to_list (number_by client rec)
numbers_of_push client log rec =
    filter_map-append (number_by client) log (rec ∷ []) ∙ ap (λ xs. numbers_of client log ++ xs) (cons_option_nil (number_by client rec))

-- a record without a number of the client leaves its numbers
pub StandFrom_other : (client first : ℕ) (log : List Record) (rec : Record) → number_by client rec ≡ None → StandFrom client first log
    → StandFrom client first (log ++ rec ∷ [])
StandFrom_other client first log rec other run =
    let same : numbers_of client (log ++ rec ∷ []) ≡ numbers_of client log =
    numbers_of_push client log rec ∙ ap (λ o. numbers_of client log ++ option_to_list o) other ∙ append-nil (numbers_of client log) in
    same ∙ run ∙ ap (λ xs. numbers_from first (length xs)) (sym same)

-- the record that a log takes of a client has the number that follows, or, of another client, leaves the client's numbers
pub StandFrom_append_from : (client first owner begin number : ℕ) (body : List ℕ) (log : List Record)
    → StandFrom client first log → (numbers_of client log ≡ [] → owner ≡ client → begin ≡ first)
    → StandFrom client first (append_from_log owner begin number body log)
StandFrom_append_from client first owner begin number body log run empty =
    let rec : Record = Data owner number body in
    let numbers = numbers_of client log in
    cond_both (number == expected_of owner begin log) (log ++ rec ∷ []) log (StandFrom client first)
    (λ taken. elim (cases_Bool (owner == client)) [
      | inl mine ↦
          let same : owner ≡ client = eqb-true owner client mine in
          let next : number ≡ first + length numbers =
          eqb-true number (expected_of owner begin log) taken ∙ ap (λ c. expected_of c begin log) same
          ∙ expected_of_run client first begin log run (λ none. empty none same) in
          let more : numbers_of client (log ++ rec ∷ []) ≡ numbers ++ number ∷ [] =
          numbers_of_push client log rec ∙ ap (λ o. numbers ++ option_to_list o) (cond-true (owner == client) (Some number) None mine) in
          more ∙ run_push first numbers number run next ∙ ap (λ xs. numbers_from first (length xs)) (sym more)
      | inr other ↦ StandFrom_other client first log rec (cond-false (owner == client) (Some number) None other) run
    ])
    (λ _. run)

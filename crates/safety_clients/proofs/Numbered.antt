-- Records of a client in a log and its numbers there, without runs: each has its number among them, and numbers that run on rise with the locals.
use Rattle.std.proofs.Common.{◌≡◌, ◌⊎◌, ◌∙◌, ℕ, zero, suc, ◌+◌, ◌<◌, ◌≤◌, ◌==◌, List, [], ◌∷◌, length, take, Option, Some, None, Contains, refl, sym, ap, subst, inl, inr, arith}
use Rattle.std.specs.List.{range_with_len, slice_get, cons_option}
use Rattle.std.proofs.lemmas.Bool.{cases_Bool, cases_lt, cond-true, cond-false, eqb-true}
use Rattle.std.proofs.lemmas.List.{length-take}
use Rattle.std.proofs.lemmas.Option.{same_Some, slice_get_within}
use Rattle.majority.proofs.Lists.{Contains_cases, Contains_here, Contains_later, Contains_none}
use Rattle.runs.specs.Names.{Record}
use Rattle.runs.specs.Names.records
use Rattle.runs.specs.Marks.{number_of_client, numbers_of_client}
use Rattle.safety_frame.proofs.Lists.{index_stays}
use Rattle.safety_logs.proofs.Fronts.{front_of}
use Rattle.safety_clients.specs.Records.{RunFrom}
use Rattle.safety_clients.proofs.Runs.{own_number, run_front}

-- ---- a record and its number

-- one of the numbers is the first record's, or one of the others'
cons_there : (found : Option ℕ) (rest : List ℕ) (number : ℕ) → found ≡ Some number → Contains (cons_option found rest) number
cons_there found rest number at = subst (λ o. Contains (cons_option o rest) number) (sym at) (Contains_here number rest)

cons_later : (found : Option ℕ) (rest : List ℕ) (number : ℕ) → Contains rest number → Contains (cons_option found rest) number
cons_later None rest number there = there
cons_later (Some k) rest number there = Contains_later k number rest there

cons_cases : (found : Option ℕ) (rest : List ℕ) (number : ℕ) → Contains (cons_option found rest) number → (found ≡ Some number) ⊎ Contains rest number
cons_cases None rest number there = inr there
cons_cases (Some k) rest number there = elim (Contains_cases k number rest there) [
  | inl same ↦ inl (ap (λ n. Some n) same)
  | inr later ↦ inr later
]

pub number_there : (client number : ℕ) (body : List ℕ) (log : List Record) (local : ℕ) → slice_get log local ≡ Some (records.Data client number body)
    → Contains (numbers_of_client client log) number
number_there client number body [] local at = absurd (cc)
number_there client number body (rec ∷ rest) zero at =
    let same : rec ≡ records.Data client number body = same_Some rec (records.Data client number body) at in
    cons_there (number_of_client client rec) (numbers_of_client client rest) number (ap (number_of_client client) same ∙ own_number client number body)
number_there client number body (rec ∷ rest) (suc local) at =
    cons_later (number_of_client client rec) (numbers_of_client client rest) number (number_there client number body rest local at)

-- a log with a record of a client has numbers of it
pub has_number : (client number : ℕ) (body : List ℕ) (log : List Record) (local : ℕ) → slice_get log local ≡ Some (records.Data client number body)
    → numbers_of_client client log ≡ [] → ⊥
has_number client number body log local at none = Contains_none number (subst (λ l. Contains l number) none (number_there client number body log local at))

-- whose number it is
pub record_of : (client number : ℕ) (rec : Record) → number_of_client client rec ≡ Some number → (body : List ℕ) × (rec ≡ records.Data client number body)
record_of client number records.Noop at = absurd (cc)
record_of client number (records.Data owner own body) at = elim (cases_Bool (owner == client)) [
  | inl mine ↦
      let same : own ≡ number = same_Some own number (sym (cond-true (owner == client) (Some own) None mine) ∙ at) in
      (body, ap (λ c. records.Data c own body) (eqb-true owner client mine) ∙ ap (λ n. records.Data client n body) same)
  | inr other ↦ let none : None ≡ Some number = sym (cond-false (owner == client) (Some own) None other) ∙ at in absurd (cc)
]

-- and each number has its record
pub record_there : (client number : ℕ) (log : List Record) → Contains (numbers_of_client client log) number
    → (local : ℕ) × (body : List ℕ) × (slice_get log local ≡ Some (records.Data client number body))
record_there client number [] there = absurd (Contains_none number there)
record_there client number (rec ∷ rest) there = elim (cons_cases (number_of_client client rec) (numbers_of_client client rest) number there) [
  | inl here ↦ let is = record_of client number rec here in (0, is.0, ap (λ r. Some r) is.1)
  | inr later ↦ let found = record_there client number rest later in (suc found.0, found.1, found.2)
]

-- ---- how many numbers stand below a local

abbrev pub rank : ℕ → List Record → ℕ → ℕ
rank client log local = length (numbers_of_client client (take local log))

counted_in : (found : Option ℕ) (rest front : List ℕ) (first number : ℕ) → RunFrom first (cons_option found rest)
    → ((from : ℕ) → RunFrom from rest → number ≡ from + length front) → number ≡ first + length (cons_option found front)
counted_in None rest front first number run next = next first run
counted_in (Some k) rest front first number run next =
    let all : k ∷ rest ≡ first ∷ range_with_len (first + 1) (length rest) = run in
    let later : rest ≡ range_with_len (first + 1) (length rest) = cc in
    omega (arith, next (first + 1) later)

pub number_is : (client first number : ℕ) (body : List ℕ) (log : List Record) (local : ℕ) → RunFrom first (numbers_of_client client log)
    → slice_get log local ≡ Some (records.Data client number body) → number ≡ first + rank client log local
number_is client first number body [] local run at = absurd (cc)
number_is client first number body (rec ∷ rest) zero run at =
    let same : rec ≡ records.Data client number body = same_Some rec (records.Data client number body) at in
    let found : number_of_client client rec ≡ Some number = ap (number_of_client client) same ∙ own_number client number body in
    let here : number ∷ numbers_of_client client rest ≡ first ∷ range_with_len (first + 1) (length (numbers_of_client client rest)) =
    subst (λ o. RunFrom first (cons_option o (numbers_of_client client rest))) found run in
    let is : number ≡ first = cc in
    let none : rank client (rec ∷ rest) zero ≡ 0 = refl in
    omega (arith, is, none)
number_is client first number body (rec ∷ rest) (suc local) run at =
    counted_in (number_of_client client rec) (numbers_of_client client rest) (numbers_of_client client (take local rest)) first number run
    (λ from later. number_is client from number body rest local later at)

more_in : (found : Option ℕ) (front longer : List ℕ) → length front < length longer → length (cons_option found front) < length (cons_option found longer)
more_in None front longer less = less
more_in (Some k) front longer less = omega (arith, less)

pub rank_rises : (client number : ℕ) (body : List ℕ) (log : List Record) (local later : ℕ) → slice_get log local ≡ Some (records.Data client number body)
    → local < later → rank client log local < rank client log later
rank_rises client number body [] local later at less = absurd (cc)
rank_rises client number body (rec ∷ rest) local zero at less = absurd (omega (arith, less))
rank_rises client number body (rec ∷ rest) zero (suc later) at less =
    let same : rec ≡ records.Data client number body = same_Some rec (records.Data client number body) at in
    let found : number_of_client client rec ≡ Some number = ap (number_of_client client) same ∙ own_number client number body in
    subst (λ o. 0 < length (cons_option o (numbers_of_client client (take later rest)))) (sym found) (omega arith)
rank_rises client number body (rec ∷ rest) (suc local) (suc later) at less =
    more_in (number_of_client client rec) (numbers_of_client client (take local rest)) (numbers_of_client client (take later rest))
    (rank_rises client number body rest local later at (omega (arith, less)))

-- ---- numbers of a range

pub range_has : (first count number : ℕ) → first ≤ number → number < first + count → Contains (range_with_len first count) number
range_has first zero number from below = absurd (omega (arith, from, below))
range_has first (suc count) number from below = elim (cases_lt first number) [
  | inl past ↦ Contains_later first number (range_with_len (first + 1) count) (range_has (first + 1) count number (omega (arith, past)) (omega (arith, below)))
  | inr at ↦
      let same : first ≡ number = omega (arith, at, from) in
      subst (λ k. Contains (range_with_len first (suc count)) k) same (Contains_here first (range_with_len (first + 1) count))
]

-- a client's record below a local
abbrev pub HasBelow : ℕ → ℕ → ℕ → List Record → Type 0
HasBelow client number end log = (local : ℕ) × (local < end) × (body : List ℕ) × (slice_get log local ≡ Some (records.Data client number body))

pub record_in_front : (client number end : ℕ) (log : List Record) → Contains (numbers_of_client client (take end log)) number → HasBelow client number end log
record_in_front client number end log has =
    let front = take end log in
    let found = record_there client number front has in
    let within = slice_get_within front found.0 _ found.2 in (
      found.0,
      omega (arith, within, length-take end log),
      found.1,
      index_stays front log found.0 (records.Data client number found.1) (front_of end log) found.2,
    )

-- where numbers run on, each one below the rank of a local has its record below that local
pub record_below : (client first number end : ℕ) (log : List Record) → RunFrom first (numbers_of_client client log) → first ≤ number
    → number < first + rank client log end → HasBelow client number end log
record_below client first number end log run from below =
    record_in_front client number end log
    (subst (λ l. Contains l number) (sym (run_front client first end log run)) (range_has first (rank client log end) number from below))

-- Lists whose records stand at their places, where a client's numbers rise with the places and none is left out: the numbers are 0, 1, 2 and so on.
use Rattle.std.proofs.Common.{◌≡◌, ◌∙◌, ℕ, suc, ◌+◌, ◌<◌, ◌≤◌, List, [], ◌∷◌, get_or, Option, Some, None, Contains, refl, ap, subst, inl, inr, arith}
use Rattle.std.specs.List.{AllByRecursion, slice_get, cons_option}
use Rattle.std.proofs.lemmas.Bool.{cases_lt}
use Rattle.std.proofs.lemmas.Option.{slice_get_within, slice_get-get_or}
use Rattle.majority.proofs.Lists.{Contains_cases, Contains_here, Contains_later}
use Rattle.runs.specs.Names.{Record}
use Rattle.runs.specs.Names.records
use Rattle.runs.specs.Marks.{number_of_client, numbers_of_client}
use Rattle.safety_frame.proofs.Lists.{each_member, from_members}
use Rattle.safety_clients.specs.Records.{RunFrom}
use Rattle.safety_clients.proofs.Numbered.{number_there, record_there, record_of}

-- ---- numbers that rise, and of which none is left out

abbrev pub Rises : List ℕ → Type 0
Rises [] = Unit {0}
Rises (x ∷ xs) = AllByRecursion (λ y. x < y) xs × Rises xs

-- each number from the first on that is below a member is a member
abbrev pub IsClosed : ℕ → List ℕ → Type 0
IsClosed first xs = (x y : ℕ) → Contains xs x → first ≤ y → y < x → Contains xs y

run_of_closed : (first x : ℕ) (xs : List ℕ) → AllByRecursion (λ y. x < y) xs → first ≤ x → IsClosed first (x ∷ xs) → x ≡ first
run_of_closed first x xs above from closed = elim (cases_lt first x) [
  | inr at ↦ omega (arith, at, from)
  | inl past ↦ elim (Contains_cases x first xs (closed x first (Contains_here x xs) (omega arith) past)) [
    | inl same ↦ same
    | inr later ↦ absurd (omega (arith, past, each_member (λ y. x < y) xs first above later))
  ]
]

pub runs_closed : (first : ℕ) (xs : List ℕ) → Rises xs → AllByRecursion (λ y. first ≤ y) xs → IsClosed first xs → RunFrom first xs
runs_closed first [] rises from closed = refl
runs_closed first (x ∷ xs) rises from closed =
    let is : x ≡ first = run_of_closed first x xs rises.0 from.0 closed in
    let above : AllByRecursion (λ y. first + 1 ≤ y) xs =
    from_members (λ y. first + 1 ≤ y) xs (λ y there. omega (arith, is, each_member (λ z. x < z) xs y rises.0 there)) in
    let rest : IsClosed (first + 1) xs = λ y z there low below.
    elim (Contains_cases x z xs (closed y z (Contains_later x y xs there) (omega (arith, low)) below)) [
      | inl same ↦ absurd (omega (arith, same, is, low))
      | inr later ↦ later
    ] in
    ap (λ h. h ∷ xs) is ∙ ap (λ l. first ∷ l) (runs_closed (first + 1) xs rises.1 above rest)

-- ---- records that stand at places

module _ (At : ℕ → Record → Type 0) (client : ℕ) where
  -- a client's numbers rise with the places, no place has two records, and each smaller number stands at an earlier place
  pub record AreOrderly : Type 0 where
    pub rise : (position number : ℕ) (body : List ℕ) (place other : ℕ) (text : List ℕ) → At position (records.Data client number body)
        → At place (records.Data client other text)
        → position < place → number < other
    pub one : (position : ℕ) (rec other : Record) → At position rec → At position other → rec ≡ other
    pub whole : (position number : ℕ) (body : List ℕ) (smaller : ℕ) → At position (records.Data client number body) → smaller < number
        → (place : ℕ) × (place < position) × (text : List ℕ) × At place (records.Data client smaller text)

  module _ (orderly : AreOrderly) where
    -- of records that stand from a place on
    abbrev StandFrom : ℕ → List Record → Type 0
    StandFrom from recs = (i : ℕ) (rec : Record) → slice_get recs i ≡ Some rec → At (from + i) rec

    rises_after : (from : ℕ) (rec : Record) (rest : List Record) (found : Option ℕ) → number_of_client client rec ≡ found → StandFrom from (rec ∷ rest)
        → Rises (numbers_of_client client rest)
        → Rises (cons_option found (numbers_of_client client rest))
    rises_after from rec rest None at stand later = later
    rises_after from rec rest (Some number) at stand later =
        let is = record_of client number rec at in
        let here : from + 0 ≡ from = omega arith in
        let first : At from (records.Data client number is.0) =
        subst (λ p. At p (records.Data client number is.0)) here (subst (At (from + 0)) is.1 (stand 0 rec refl)) in (
          from_members (λ y. number < y) (numbers_of_client client rest)
              (λ y there.
              let found = record_there client y rest there in
              orderly.rise from number is.0 (from + suc found.0) y found.1 first (stand (suc found.0) _ found.2) (omega arith)),
          later,
        )

    rises_from : (from : ℕ) (recs : List Record) → StandFrom from recs → Rises (numbers_of_client client recs)
    rises_from from [] stand = tt
    rises_from from (rec ∷ rest) stand =
        rises_after from rec rest (number_of_client client rec) refl stand
        (rises_from (from + 1) rest
        (λ i r at. subst (λ p. At p r) (let next : from + suc i ≡ from + 1 + i = omega arith in next) (stand (suc i) r at)))

    pub are_counted : (recs : List Record) → ((i : ℕ) (rec : Record) → slice_get recs i ≡ Some rec → At i rec) → RunFrom 0 (numbers_of_client client recs)
    are_counted recs stand =
        runs_closed 0 (numbers_of_client client recs)
        (rises_from 0 recs (λ i rec at. subst (λ p. At p rec) (let same : i ≡ 0 + i = omega arith in same) (stand i rec at)))
        (from_members (λ y. 0 ≤ y) (numbers_of_client client recs) (λ y there. omega arith))
        (λ x y there low below.
        let found = record_there client x recs there in
        let earlier = orderly.whole found.0 x found.1 y (stand found.0 _ found.2) below in
        let within = slice_get_within recs found.0 _ found.2 in
        let rec = get_or recs earlier.0 records.Noop in
        let at = slice_get-get_or recs earlier.0 records.Noop (omega (arith, within, earlier.1)) in
        let same = orderly.one earlier.0 rec (records.Data client y earlier.2) (stand earlier.0 rec at) earlier.3 in
        number_there client y earlier.2 recs earlier.0 (at ∙ ap (λ r. Some r) same))

-- The laws of logs that calls made: numbers run on, begin with the first one named, and logs only grow at their ends.
use Rattle.std.proofs.Common.{◌≡◌, ◌≢◌, ℕ, ◌==◌, List, [], ◌∷◌, ◌++◌, length, take, get_or, ◌⊎◌, Some, refl, sym, ap, ◌∙◌, append_assoc, append-nil, inl, inr}
use Rattle.std.specs.List.{slice_get, AllByRecursion}
use Rattle.std.proofs.lemmas.Bool.{cond_both, eqb-true}
use Rattle.std.proofs.lemmas.List.{take_at, take_more, length_push}
use Rattle.std.proofs.lemmas.Option.{slice_get_within, get_or_from_slice_get}
use Rattle.record_codec.specs.declared.record.Record.{Record}
use Rattle.record_codec.specs.declared.record.Record.TheVariants.{Data, Noop}
use Rattle.shard_log.specs.ShardLog.{numbers_of, expected_of}
use Rattle.shard_log.specs.Calls.{Call, append_from, append_noop, append_at, log_after, log_after_all, log_of, numbers_from, IsFront, IsPrimaryCall, CopiesFrom, BeginsWith, NumbersAreConsecutive, NumbersBeginWithFirst, LogsOnlyGrow, CopiesAreFronts}
use Rattle.shard_log.proofs.NumberLemmas.{StandFrom, StandFrom_other, StandFrom_append_from, StandFrom_take, IsConsecutive_from_run}

-- one more call of a primary, which names the client's first where the client has no record
StandFrom_log_after : (client first : ℕ) (call : Call) (log : List Record) → IsPrimaryCall call → StandFrom client first log
    → (numbers_of client log ≡ [] → BeginsWith client first call) → StandFrom client first (log_after call log)
StandFrom_log_after client first (append_from owner begin number body) log primary run begins = StandFrom_append_from client first owner begin number body log run begins
StandFrom_log_after client first append_noop log primary run begins = StandFrom_other client first log Noop refl run
StandFrom_log_after client first (append_at local rec) log primary run begins = absurd primary

StandFrom_log_after_all : (client first : ℕ) (calls : List Call) (log : List Record) → AllByRecursion IsPrimaryCall calls
    → AllByRecursion (BeginsWith client first) calls
    → StandFrom client first log → StandFrom client first (log_after_all calls log)
StandFrom_log_after_all client first [] log primary begins run = run
StandFrom_log_after_all client first (call ∷ later) log primary begins run =
    StandFrom_log_after_all client first later (log_after call log) primary.1 begins.1 (StandFrom_log_after client first call log primary.0 run (λ _. begins.0))

-- the client's numbers rise by one from some first one
abbrev Stand : ℕ → List Record → Type 0
Stand client log = (first : ℕ) × StandFrom client first log

cases_nil : (xs : List ℕ) → (xs ≡ []) ⊎ (xs ≢ [])
cases_nil [] = inl refl
cases_nil (x ∷ xs) = inr (λ e. cc)

-- the first number that a call names
begin_of : Call → ℕ
begin_of (append_from owner begin number body) = begin
begin_of append_noop = 0
begin_of (append_at local rec) = 0

begins_itself : (client : ℕ) (call : Call) → BeginsWith client (begin_of call) call
unfolding begin_of
begins_itself client (append_from owner begin number body) = λ _. refl
begins_itself client append_noop = tt
begins_itself client (append_at local rec) = tt

Stand_log_after : (client : ℕ) (call : Call) (log : List Record) → IsPrimaryCall call → Stand client log → Stand client (log_after call log)
Stand_log_after client call log primary run = elim (cases_nil (numbers_of client log)) [
  | inl none ↦
      let begin = begin_of call in
      let start : StandFrom client begin log = none ∙ sym (ap (λ xs. numbers_from begin (length xs)) none) in
      (begin, StandFrom_log_after client begin call log primary start (λ _. begins_itself client call))
  | inr some ↦ (run.0, StandFrom_log_after client run.0 call log primary run.1 (λ none. absurd (some none)))
]

Stand_log_after_all : (client : ℕ) (calls : List Call) (log : List Record) → AllByRecursion IsPrimaryCall calls → Stand client log
    → Stand client (log_after_all calls log)
Stand_log_after_all client [] log primary run = run
Stand_log_after_all client (call ∷ later) log primary run =
    Stand_log_after_all client later (log_after call log) primary.1 (Stand_log_after client call log primary.0 run)

pub numbers_are_consecutive : NumbersAreConsecutive
numbers_are_consecutive calls primary client end =
    let run = Stand_log_after_all client calls [] primary (0, refl) in
    IsConsecutive_from_run run.0 (numbers_of client (take end (log_of calls))) (StandFrom_take client run.0 end (log_of calls) run.1)

pub numbers_begin_with_first : NumbersBeginWithFirst
numbers_begin_with_first calls primary client first begins end =
    StandFrom_take client first end (log_of calls) (StandFrom_log_after_all client first calls [] primary begins refl)

-- a log and what it grew to
abbrev Grew : List Record → List Record → Type 0
Grew log later = (more : List Record) × (later ≡ log ++ more)

Grew_log_after : (call : Call) (log : List Record) → Grew log (log_after call log)
Grew_log_after (append_from client first number body) log =
    cond_both (number == expected_of client first log) (log ++ Data client number body ∷ []) log (Grew log) (λ _. (Data client number body ∷ [], refl)) (λ _. ([], sym (append-nil log)))
Grew_log_after append_noop log = (Noop ∷ [], refl)
Grew_log_after (append_at local rec) log =
    cond_both (local == length log) (log ++ rec ∷ []) log (Grew log) (λ _. (rec ∷ [], refl)) (λ _. ([], sym (append-nil log)))

Grew_log_after_all : (calls : List Call) (log : List Record) → Grew log (log_after_all calls log)
Grew_log_after_all [] log = ([], sym (append-nil log))
Grew_log_after_all (call ∷ later) log =
    let here = Grew_log_after call log in
    let rest = Grew_log_after_all later (log_after call log) in
    (here.0 ++ rest.0, rest.1 ∙ ap (λ xs. xs ++ rest.0) here.1 ∙ append_assoc log here.0 rest.0)

log_after_all_append : (earlier later : List Call) (log : List Record) → log_after_all (earlier ++ later) log ≡ log_after_all later (log_after_all earlier log)
log_after_all_append [] later log = refl
log_after_all_append (call ∷ earlier) later log = log_after_all_append earlier later (log_after call log)

pub logs_only_grow : LogsOnlyGrow
logs_only_grow earlier later =
    let log = log_of earlier in
    let grew = Grew_log_after_all later log in
    ap (take (length log)) (log_after_all_append earlier later [] ∙ grew.1) ∙ take_at log grew.0 (length log) refl

IsFront_push : (log front : List Record) (rec : Record) → IsFront front log → slice_get log (length front) ≡ Some rec → IsFront (front ++ rec ∷ []) log
IsFront_push log front rec is at =
    ap (λ n. take n log) (length_push front rec) ∙ take_more log (length front) rec (slice_get_within log (length front) rec at)
    ∙ ap (λ xs. xs ++ get_or log (length front) rec ∷ []) is ∙ ap (λ r. front ++ r ∷ []) (get_or_from_slice_get log (length front) rec rec at)

IsFront_log_after : (log front : List Record) (call : Call) → CopiesFrom log call → IsFront front log → IsFront (log_after call front) log
IsFront_log_after log front (append_from client first number body) copies is = absurd copies
IsFront_log_after log front append_noop copies is = absurd copies
IsFront_log_after log front (append_at local rec) copies is =
    cond_both (local == length front) (front ++ rec ∷ []) front (λ xs. IsFront xs log)
    (λ here. IsFront_push log front rec is (ap (slice_get log) (sym (eqb-true local (length front) here)) ∙ copies)) (λ _. is)

IsFront_log_after_all : (log : List Record) (calls : List Call) (front : List Record) → AllByRecursion (CopiesFrom log) calls → IsFront front log
    → IsFront (log_after_all calls front) log
IsFront_log_after_all log [] front copies is = is
IsFront_log_after_all log (call ∷ later) front copies is =
    IsFront_log_after_all log later (log_after call front) copies.1 (IsFront_log_after log front call copies.0 is)

pub copies_are_fronts : CopiesAreFronts
copies_are_fronts log calls copies = IsFront_log_after_all log calls [] copies refl

-- The calls that change a log, and the laws of the logs that they make.
use Rattle.std.specs.Prelude.{◌≡◌, ℕ, ◌+◌, zero, suc, List, [], ◌∷◌, ◌++◌, length, take, slice_get, Some}
use Rattle.std.specs.List.{AllByRecursion}
use Rattle.record_codec.specs.declared.record.Record.{Record}
use Rattle.shard_log.specs.ShardLog.{numbers_of, append_from_log, append_noop_log, append_at_log}

-- a call that changes a log
pub data Call : Type 0 where
  append_from : (client first number : ℕ) (body : List ℕ) → Call
  append_noop : Call
  append_at : (local : ℕ) (rec : Record) → Call

-- the log after a call
abbrev pub log_after : Call → List Record → List Record
log_after (append_from client first number body) log = append_from_log client first number body log
log_after append_noop log = append_noop_log log
log_after (append_at local rec) log = append_at_log local rec log

-- the log after calls, the earliest first
abbrev pub log_after_all : List Call → List Record → List Record
log_after_all [] log = log
log_after_all (call ∷ later) log = log_after_all later (log_after call log)

-- the log that calls make of a new one
abbrev pub log_of : List Call → List Record
log_of calls = log_after_all calls []

-- numbers that rise by one from `first`
abbrev pub numbers_from : ℕ → ℕ → List ℕ
numbers_from first zero = []
numbers_from first (suc count) = first ∷ numbers_from (first + 1) count

-- each number is one more than the one before it
abbrev pub IsConsecutive : List ℕ → Type 0
IsConsecutive [] = Unit {0}
IsConsecutive (first ∷ rest) = rest ≡ numbers_from (first + 1) (length rest)

-- one list is the front of the other
abbrev pub IsFront : List Record → List Record → Type 0
IsFront front log = take (length front) log ≡ front

-- a call that takes a client's record or fills a place, as a primary makes it
abbrev pub IsPrimaryCall : Call → Type 0
IsPrimaryCall (append_from client first number body) = Unit {0}
IsPrimaryCall append_noop = Unit {0}
IsPrimaryCall (append_at local rec) = ⊥

-- a call that copies the record that stands at its local in a log, as a backup makes it
abbrev pub CopiesFrom : List Record → Call → Type 0
CopiesFrom log (append_from client first number body) = ⊥
CopiesFrom log append_noop = ⊥
CopiesFrom log (append_at local rec) = slice_get log local ≡ Some rec

-- a call which, if it brings a record of the client, says that the client begins with `first`
abbrev pub BeginsWith : ℕ → ℕ → Call → Type 0
BeginsWith client first (append_from owner begin number body) = owner ≡ client → begin ≡ first
BeginsWith client first append_noop = Unit {0}
BeginsWith client first (append_at local rec) = Unit {0}

-- in a log that a primary's calls made, and in each front of it, each client's numbers stand consecutively in order of local
abbrev pub NumbersAreConsecutive : Type 0
NumbersAreConsecutive =
    (calls : List Call) → AllByRecursion IsPrimaryCall calls
    → (client end : ℕ) → IsConsecutive (numbers_of client (take end (log_of calls)))

-- they begin with the client's first, where its calls all name the same one
abbrev pub NumbersBeginWithFirst : Type 0
NumbersBeginWithFirst =
    (calls : List Call) → AllByRecursion IsPrimaryCall calls
    → (client first : ℕ) → AllByRecursion (BeginsWith client first) calls
    → (end : ℕ) → let numbers = numbers_of client (take end (log_of calls)) in numbers ≡ numbers_from first (length numbers)

-- a log only grows at its end: what calls made of it is the front of what more calls make of it
abbrev pub LogsOnlyGrow : Type 0
LogsOnlyGrow = (earlier later : List Call) → IsFront (log_of earlier) (log_of (earlier ++ later))

-- a log that copies of a log's records made is a front of that log
abbrev pub CopiesAreFronts : Type 0
CopiesAreFronts = (log : List Record) (calls : List Call) → AllByRecursion (CopiesFrom log) calls → IsFront (log_of calls) log

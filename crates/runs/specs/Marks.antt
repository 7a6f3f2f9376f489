-- What is read off lists of marks and items.
use Rattle.std.specs.Prelude.{◌≡◌, ◌⊎◌, ℕ, ◌==◌, if◌then◌else◌, List, [], ◌∷◌, ◌++◌, map, length, replicate, filter_map, flat_map, fold, take, Contains, Option, Some, None}
use Rattle.std.specs.List.{range_with_len}
use Rattle.net_model.specs.Pasts.{Past, shown, marks_of}
use Rattle.runs.specs.Names.{Entry, Record, Item, Mark}
use Rattle.runs.specs.Names.nodes
use Rattle.runs.specs.Names.records
use Rattle.runs.specs.Names.items
use Rattle.runs.specs.Names.marks

-- ---- relations on lists

-- 0, 1, 2 and so on, each once
abbrev pub IsCounted : List ℕ → Type 0
IsCounted numbers = numbers ≡ range_with_len 0 (length numbers)

-- the second list goes on after the first
abbrev pub IsPrefix : {A : Type 0} → List A → List A → Type 0
IsPrefix {A} front whole = (rest : List A) × (whole ≡ front ++ rest)

-- it holds of each member, given the earlier ones
abbrev pub EachAfter : {A : Type 0} → (List A → A → Type 0) → List A → List A → Type 0
EachAfter P earlier [] = Unit {0}
EachAfter P earlier (x ∷ xs) = P earlier x × EachAfter P (earlier ++ x ∷ []) xs

-- ---- confirmations

abbrev pub confirmation_in : Mark → Option (ℕ × Record)
confirmation_in (marks.Confirm position rec) = Some (position, rec)
confirmation_in _ = None

-- the positions and records that marks confirm, in order
abbrev pub confirmations : List Mark → List (ℕ × Record)
confirmations = filter_map confirmation_in

-- some node confirmed this record at this position
abbrev pub IsConfirmed : Past → ℕ → Record → Type 0
IsConfirmed past position rec = Contains (shown past) (marks.Confirm position rec)

-- where a consumer's confirmations stand, over all its restarts, and what they carry: its confirmed list
abbrev pub confirmed_positions : ℕ → Past → List ℕ
confirmed_positions consumer past = map (λ c. c.0) (confirmations (marks_of (nodes.Consumer consumer) past))

abbrev pub confirmed_list : ℕ → Past → List Record
confirmed_list consumer past = map (λ c. c.1) (confirmations (marks_of (nodes.Consumer consumer) past))

-- ---- speculation

-- some node applied this record at this position, or told it as its position, before it was agreed
abbrev pub IsSpeculated : Past → ℕ → Record → Type 0
IsSpeculated past position rec =
    Contains (shown past) (marks.Apply position rec) ⊎ Contains (shown past) (marks.Promise position rec)

-- what a mark makes of a consumer's applied list
abbrev pub after_mark : List Record → Mark → List Record
after_mark log (marks.Apply position rec) = log ++ rec ∷ []
after_mark log (marks.Undo first) = take first log
after_mark log _ = log

-- the applied list that a consumer's marks leave
abbrev pub applied_by : List Mark → List Record
applied_by = fold after_mark []

abbrev pub applied_log : ℕ → Past → List Record
applied_log consumer past = applied_by (marks_of (nodes.Consumer consumer) past)

-- ---- the other marks

abbrev pub notice_in : Mark → Option ℕ
notice_in (marks.Notice first) = Some first
notice_in _ = None

abbrev pub notices : List Mark → List ℕ
notices = filter_map notice_in

abbrev pub output_in : Mark → Option (List ℕ)
output_in (marks.Out bytes) = Some bytes
output_in _ = None

-- the pieces of output that marks let out
abbrev pub outputs : List Mark → List (List ℕ)
outputs = filter_map output_in

abbrev pub ack_in : Mark → Option (ℕ × ℕ)
ack_in (marks.Ack number position) = Some (number, position)
ack_in _ = None

-- the numbers and positions of acknowledgements
abbrev pub acks : List Mark → List (ℕ × ℕ)
acks = filter_map ack_in

-- ---- records

-- the number of a record, where it is the client's
abbrev pub number_of_client : ℕ → Record → Option ℕ
number_of_client client (records.Data of_client number body) = if of_client == client then Some number else None
number_of_client client records.Noop = None

-- the numbers of a client's records in a log, in order
abbrev pub numbers_of_client : ℕ → List Record → List ℕ
numbers_of_client client = filter_map (number_of_client client)

-- ---- items

abbrev pub entry_in : Item → Option Entry
entry_in (items.Known entry) = Some entry
entry_in _ = None

-- the agreed entries that items make known, from slot 0 on
abbrev pub known_by : List Item → List Entry
known_by = filter_map entry_in

abbrev pub records_in : Item → List Record
records_in (items.Taken rec) = rec ∷ []
records_in (items.Noops count) = replicate count records.Noop
records_in _ = []

-- the log that a replica's items give
abbrev pub log_by : List Item → List Record
log_by = flat_map records_in

abbrev pub kept_confirmation_in : Item → Option (Record × List ℕ)
kept_confirmation_in (items.Confirmed rec output) = Some (rec, output)
kept_confirmation_in _ = None

-- the confirmed records that a consumer's items keep, each with its output
abbrev pub kept_confirmations : List Item → List (Record × List ℕ)
kept_confirmations = filter_map kept_confirmation_in

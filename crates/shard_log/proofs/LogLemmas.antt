-- The places of a client's records tell what the log itself would: its last number, and the local of each.
use Rattle.std.proofs.Common.{◌≡◌, ℕ, zero, suc, ◌+◌, ◌-◌, ◌<◌, ◌≤◌, ◌^◌, ◌==◌, ◌&&◌, nat_lt, true, false, cond, if◌then◌else◌, List, [], ◌∷◌, ◌++◌, length, take, Option, Some, None, refl, sym, ap, ◌∙◌, add-zero, zero-add, get_or, inl, inr, arith}
use Rattle.std.specs.Option.{option_or, option_map, option_to_list, IfSome}
use Rattle.std.specs.List.{cons_option, All, AllByRecursion}
use Rattle.std.proofs.lemmas.Bool.{cases_lt, cond_both, lt-ltb, le-ltb}
use Rattle.std.proofs.lemmas.List.Elements.{All-from_recursion, All-push, All-head, All-tail}
use Rattle.record_codec.specs.declared.record.Record.{Record}
use Rattle.record_codec.specs.declared.record.Record.TheVariants.{Data, Noop}
use Rattle.shard_log.specs.declared.index.Place.{Place}
use Rattle.record_codec.specs.Records.{IsValidRecord}
use Rattle.shard_log.specs.Records.{number_by}
use Rattle.shard_log.specs.inside.Places.{place_by, places_from, places_of, last_below, first_with}
use Rattle.shard_log.specs.inside.Kept.{IsIndexed}
use Rattle.shard_log.proofs.PlaceLemmas.{option_or_none, cons_option_nil}
use Rattle.shard_log.specs.ShardLog.{last_of, local_of}

-- a local counted from the next record on
map_next : (at : ℕ) (o : Option ℕ) → option_map (λ local. at + 1 + local) o ≡ option_map (λ local. at + local) (option_map (λ local. local + 1) o)
map_next at None = refl
map_next at (Some local) = ap Some (omega arith)

map_zero : (o : Option ℕ) → option_map (λ local. 0 + local) o ≡ o
map_zero None = refl
map_zero (Some local) = ap Some (zero-add local)

-- the first place with a number is that of the least local with it
first_with_places_from : (client number at : ℕ) (log : List Record)
    → first_with number (places_from client at log) ≡ option_map (λ local. at + local) (local_of client number log)
first_with_places_from client number at [] = refl
first_with_places_from client number at (Noop ∷ rest) =
    first_with_places_from client number (at + 1) rest ∙ map_next at (local_of client number rest)
first_with_places_from client number at (Data owner own body ∷ rest) =
    let later = first_with_places_from client number (at + 1) rest ∙ map_next at (local_of client number rest) in
    let place : ℕ → Place = λ n. record { local = at; number = n } in
    elim (owner == client) as (λ mine.
    first_with number (cons_option (option_map place (cond mine (Some own) None)) (places_from client (at + 1) rest))
    ≡ option_map (λ local. at + local) (cond (mine && (own == number)) (Some 0) (option_map (λ local. local + 1) (local_of client number rest)))) [
      | false ↦ later
      | true ↦ elim (own == number) as (λ here.
          option_or (cond here (Some at) None) (first_with number (places_from client (at + 1) rest))
          ≡ option_map (λ local. at + local) (cond here (Some 0) (option_map (λ local. local + 1) (local_of client number rest)))) [
            | true ↦ ap Some (sym (add-zero at))
            | false ↦ later
          ]
    ]

pub first_with_places_of : (client number : ℕ) (log : List Record) → first_with number (places_of client log) ≡ local_of client number log
first_with_places_of client number log = first_with_places_from client number 0 log ∙ map_zero (local_of client number log)

take_nil : (n : ℕ) → ◌≡◌ {A = List Record} (take n []) []
take_nil zero = refl
take_nil (suc n) = refl

-- a record's number, where it stands below `end`
abbrev number_until : ℕ → ℕ → Option ℕ → Option ℕ
number_until end at number = if nat_lt at end then number else None

last_below_cons : (end at : ℕ) (number : Option ℕ) (ps : List Place)
    → last_below end (cons_option (option_map (λ n. record { local = at; number = n }) number) ps) ≡ option_or (last_below end ps) (number_until end at number)
last_below_cons end at None ps = cond_both (nat_lt at end) None None (λ o. last_below end ps ≡ option_or (last_below end ps) o) (λ _. sym (option_or_none _)) (λ _. sym (option_or_none _))
last_below_cons end at (Some n) ps = refl

last_of_take : (client end at : ℕ) (r : Record) (rest : List Record)
    → last_of client (take (end - at) (r ∷ rest)) ≡ option_or (last_of client (take (end - (at + 1)) rest)) (number_until end at (number_by client r))
last_of_take client end at r rest = elim (cases_lt at end) [
  | inl below ↦
      let more : end - at ≡ suc (end - (at + 1)) = omega arith in
      let test : nat_lt at end ≡ true = lt-ltb at end below in
      rw (more, test) refl
  | inr past ↦
      let none : end - at ≡ 0 = omega arith in
      let still : end - (at + 1) ≡ 0 = omega arith in
      let test : nat_lt at end ≡ false = le-ltb at end past in
      rw (none, still, test) refl
]

-- the last place below an end is that of the client's last record before it
last_below_places_from : (client end at : ℕ) (log : List Record) → last_below end (places_from client at log) ≡ last_of client (take (end - at) log)
last_below_places_from client end at [] = sym (ap (last_of client) (take_nil (end - at)))
last_below_places_from client end at (r ∷ rest) =
    last_below_cons end at (number_by client r) (places_from client (at + 1) rest)
    ∙ ap (λ o. option_or o (number_until end at (number_by client r))) (last_below_places_from client end (at + 1) rest)
    ∙ sym (last_of_take client end at r rest)

pub last_below_places_of : (client end : ℕ) (log : List Record) → last_below end (places_of client log) ≡ last_of client (take end log)
last_below_places_of client end log = last_below_places_from client end 0 log ∙ ap (λ n. last_of client (take n log)) (let whole : end - 0 ≡ end = omega arith in whole)

-- numbers of valid records are at most 2^48
number_by_valid : (client : ℕ) (r : Record) → IsValidRecord r → IfSome (number_by client r) (λ n. n ≤ 2 ^ 48)
number_by_valid client Noop h = tt
number_by_valid client (Data owner own body) h =
    elim (owner == client) as (λ mine. IfSome (cond mine (Some own) None) (λ n. n ≤ 2 ^ 48)) [ true ↦ h.1 | false ↦ tt ]

option_or_small : (a b : Option ℕ) → IfSome a (λ n. n ≤ 2 ^ 48) → IfSome b (λ n. n ≤ 2 ^ 48) → IfSome (option_or a b) (λ n. n ≤ 2 ^ 48)
option_or_small None b h k = k
option_or_small (Some x) b h k = h

pub last_of_valid : (client : ℕ) (log : List Record) → All IsValidRecord log → IfSome (last_of client log) (λ n. n ≤ 2 ^ 48)
last_of_valid client [] h = tt
last_of_valid client (r ∷ rest) h =
    option_or_small (last_of client rest) (number_by client r) (last_of_valid client rest (All-tail IsValidRecord r rest h)) (number_by_valid client r (All-head IsValidRecord r rest h))

cons_option_append : {X : Type 0} (o : Option X) (xs ys : List X) → cons_option o (xs ++ ys) ≡ cons_option o xs ++ ys
cons_option_append None xs ys = refl
cons_option_append (Some x) xs ys = refl

-- the places of a log with one more record: those of the log, and the record's
places_from_push : (client at : ℕ) (log : List Record) (rec : Record)
    → places_from client at (log ++ rec ∷ []) ≡ places_from client at log ++ option_to_list (place_by client (at + length log) rec)
places_from_push client at [] rec = rw (add-zero at) (cons_option_nil (place_by client at rec))
places_from_push client at (r ∷ rest) rec =
    let local : at + 1 + length rest ≡ at + suc (length rest) = omega arith in
    ap (cons_option (place_by client at r)) (places_from_push client (at + 1) rest rec)
    ∙ cons_option_append (place_by client at r) (places_from client (at + 1) rest) _
    ∙ ap (λ n. places_from client at (r ∷ rest) ++ option_to_list (place_by client n rec)) local

below_cons : (at bound : ℕ) (number : Option ℕ) (ps : List Place) → at ≤ bound → AllByRecursion (λ (p : Place). p.local ≤ bound) ps
    → AllByRecursion (λ (p : Place). p.local ≤ bound) (cons_option (option_map (λ n. record { local = at; number = n }) number) ps)
below_cons at bound None ps here later = later
below_cons at bound (Some n) ps here later = (here, later)

-- the places of a log's records are below its length
places_from_below : (client at bound : ℕ) (log : List Record) → at + length log ≤ bound
    → AllByRecursion (λ (p : Place). p.local ≤ bound) (places_from client at log)
places_from_below client at bound [] h = tt
places_from_below client at bound (r ∷ rest) h =
    below_cons at bound (number_by client r) (places_from client (at + 1) rest) (omega arith) (places_from_below client (at + 1) bound rest (omega arith))

pub places_of_below : (client : ℕ) (log : List Record) → All (λ (p : Place). p.local ≤ length log) (places_of client log)
places_of_below client log =
    All-from_recursion (λ (p : Place). p.local ≤ length log) (places_of client log) (places_from_below client 0 (length log) log (omega arith))

-- an index of a log, with the place of one more record, is one of the log with that record
pub IsIndexed_push : (log : List Record) (rec : Record) (old new : List (List Place)) → IsIndexed log old → IsValidRecord rec
    → ((client : ℕ) → client < 6 → get_or new client [] ≡ get_or old client [] ++ option_to_list (place_by client (length log) rec))
    → IsIndexed (log ++ rec ∷ []) new
IsIndexed_push log rec old new index within places = record {
  valid = All-push IsValidRecord log rec index.valid within;
  places = λ client h.
      places client h ∙ ap (λ ps. ps ++ option_to_list (place_by client (length log) rec)) (index.places client h)
      ∙ ap (λ n. places_of client log ++ option_to_list (place_by client n rec)) (sym (zero-add (length log)))
      ∙ sym (places_from_push client 0 log rec);
}

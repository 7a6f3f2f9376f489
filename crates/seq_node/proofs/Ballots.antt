-- Ballots of attempts: how an attempt starts at a slot's acceptor, and that what it brings to the acceptor is what the stored items bring,
-- as a new ballot is above its promise; and the greater of two reports.
use Rattle.std.proofs.Common.{◌≡◌, ℕ, ◌+◌, ◌*◌, ◌/◌, ◌%◌, ◌<◌, ◌≤◌, ◌==◌, max, Bool, true, false, Option, Some, None, is_none, is_some, unwrap_or, length, refl, ap, div-add-mod', mod-lt, arith, ◌-◌, ◌^◌, List, ◌++◌, replicate, get_or, option_map, sym, ◌∙◌}
use Rattle.std.specs.Prelude.{if◌then◌else◌, nat_lt}
use Rattle.std.proofs.lemmas.Bool.{cond-false, ltb-true, le-ltb, and_parts, cond-true, lt-ltb}
use Rattle.majority.specs.Ballots.{next_ballot, greater_promise}
use Rattle.majority.specs.Acceptors.{AcceptorState, with_promise, with_vote, prepare_answer_unless, after_prepare_answer, after_prepare, accept_answer_unless, after_accept_answer, after_accept, fresh_acceptor}
use Rattle.majority.specs.Proposers.{takes_zero, ballot_for, greater_report, value_of_report}
use Rattle.quota_table.specs.Entries.{IsValidEntry}
use Rattle.msg_wire.specs.Valid.{IsValidReport}
use Rattle.node_rules.specs.Names.{Entry}
use Rattle.node_rules.proofs.Lists.{on_test}
use Rattle.std.proofs.lemmas.Grind.{common_steps}
use Rattle.seq_node.specs.States.{reaching}
use Rattle.seq_node.specs.Attempts.{ballot_below}

-- ---- an acceptor that has promised nothing greater

pub promises_it : (ballot : ℕ) (own : AcceptorState Entry) → greater_promise own.promised ballot ≡ None → after_prepare ballot own ≡ with_promise ballot own
promises_it ballot own none_above = ap (λ (promised : Option ℕ). after_prepare_answer (prepare_answer_unless promised own) ballot own) none_above

pub accepts_it : (ballot : ℕ) (value : Entry) (own : AcceptorState Entry) → greater_promise own.promised ballot ≡ None
    → after_accept ballot value own ≡ with_vote ballot value own
accepts_it ballot value own none_above = ap (λ (promised : Option ℕ). after_accept_answer (accept_answer_unless promised) ballot value own) none_above

-- ---- a new ballot

next_above : (replica n floor : ℕ) → 1 ≤ n → floor < next_ballot replica n floor
next_above replica n floor some =
    let split : floor / n * n + floor % n ≡ floor = div-add-mod' floor n in
    let rest : floor % n < n = mod-lt floor (omega (arith, some)) in
    on_test (λ (ballot : ℕ). floor < ballot) (nat_lt floor (floor / n * n + replica)) (floor / n * n + replica) (floor / n * n + replica + n)
    (λ above. ltb-true _ _ above) (λ _. omega (arith, split, rest))

none_greater : (promised : Option ℕ) (ballot : ℕ) → unwrap_or promised 0 ≤ ballot → greater_promise promised ballot ≡ None
none_greater None ballot above = refl
none_greater (Some p) ballot above = cond-false (nat_lt ballot p) (Some p) None (le-ltb ballot p above)

nothing_promised : (promised : Option ℕ) (ballot : ℕ) → is_none promised ≡ true → greater_promise promised ballot ≡ None
nothing_promised None ballot none = refl
nothing_promised (Some p) ballot none = absurd (cc)

pub open_ballot : (replica n highest : ℕ) (own : AcceptorState Entry) → 1 ≤ n → greater_promise own.promised (ballot_for replica n highest own) ≡ None
open_ballot replica n highest own some =
    on_test (λ (ballot : ℕ). greater_promise own.promised ballot ≡ None) (takes_zero replica own) 0 (next_ballot replica n (max highest (unwrap_or own.promised 0)))
    (λ zero_taken. nothing_promised own.promised 0 (and_parts (is_none own.promised) (is_none own.accepted) (and_parts (replica == 0) _ zero_taken).1).0)
    (λ _. none_greater own.promised _ (omega (arith, next_above replica n (max highest (unwrap_or own.promised 0)) some)))

-- ---- reports

-- what holds of both reports holds of the greater
pub on_greater : (P : Option (ℕ × Entry) → Type 0) (first second : Option (ℕ × Entry)) → P first → P second → P (greater_report first second)
on_greater P None second one other = other
on_greater P (Some first) None one other = one
on_greater P (Some first) (Some second) one other = on_test P (nat_lt first.0 second.0) (Some second) (Some first) (λ _. other) (λ _. one)

pub valid_reported : (report : Option (ℕ × Entry)) (wish : Entry) → IsValidReport report → IsValidEntry wish → IsValidEntry (value_of_report report wish)
valid_reported None wish told valid = valid
valid_reported (Some (ballot, entry)) wish told valid = told.1

-- ---- an attempt starts

module _ {X : Type 0} where
  padded : (xs : List X) (slot : ℕ) (x d : X) → get_or (xs ++ replicate (slot + 1 - length xs) x) slot d ≡ get_or xs slot x
  padded xs slot x d = grind (arith, common_steps)

-- what stands at a slot of acceptors that were made to reach it
pub reached : (acceptors items : List (AcceptorState Entry)) (slot : ℕ) (own : AcceptorState Entry) → items ≡ reaching (slot + 1) acceptors
    → own ≡ get_or items slot own
    → own ≡ get_or acceptors slot fresh_acceptor
reached acceptors items slot own made here = here ∙ ap (λ (xs : List (AcceptorState Entry)). get_or xs slot own) made ∙ padded acceptors slot fresh_acceptor own

pub started_below : {X : Type 0} → (make : ℕ → X) (ballot : ℕ) → ballot < 2 ^ 31 → Some (make ballot) ≡ option_map make (ballot_below ballot)
started_below make ballot low = ap (option_map make) (sym (cond-true (nat_lt ballot (2 ^ 31)) _ _ (lt-ltb ballot (2 ^ 31) low)))

pub not_started : {X : Type 0} → (make : ℕ → X) (ballot : ℕ) → 2 ^ 31 ≤ ballot → None ≡ option_map make (ballot_below ballot)
not_started make ballot high = ap (option_map make) (sym (cond-false (nat_lt ballot (2 ^ 31)) _ _ (le-ltb ballot (2 ^ 31) high)))

-- What changes of a sequencer's parts keep: it stays in order, whatever valid things are put into it.
use Rattle.std.proofs.Common.{◌≡◌, ℕ, ◌+◌, ◌-◌, ◌<◌, ◌≤◌, ◌^◌, ◌==◌, max, List, [], ◌∷◌, ◌++◌, length, set, replicate, get_or, drop, Option, Some, None, refl, ap, subst, ◌∙◌, arith, append-nil}
use Rattle.std.specs.Prelude.{slice_index}
use Rattle.std.specs.List.{AllByRecursion}
use Rattle.std.proofs.lemmas.Bool.{eq-eqb}
use Rattle.std.proofs.lemmas.List.{length-append, length-set, length-replicate, set-get_or}
use Rattle.majority.specs.Acceptors.{AcceptorState, fresh_acceptor}
use Rattle.msg_wire.specs.Entries.{is_entry}
use Rattle.msg_wire.specs.Nodes.{number_of}
use Rattle.msg_wire.specs.Valid.{IsPlace, IsValidReport, IsValidConfig, IsNodeOf}
use Rattle.node_rules.specs.Names.{NodeId, Config, Entry, Command}
use Rattle.node_rules.specs.Names.nodes
use Rattle.node_rules.specs.Names.sides
use Rattle.node_rules.specs.Nodes.{Node, with_own}
use Rattle.node_rules.proofs.Lists.{on_test, all_append, all_replicate, all_set, all_or}
use Rattle.node_rules.proofs.Limits.{base_fresh, base_reset}
use Rattle.seq_node.specs.States.{SlotAttempt, SequencerState, only_acceptors, acceptor_at, reaching, with_acceptor, with_greatest, with_report, with_attempt}
use Rattle.seq_node.specs.Learning.{wish_granted, attempt_over}
use Rattle.seq_node.specs.Restart.{fresh_node, reset_of}
use Rattle.seq_node.specs.Sound.{MayBeValid, IsAcceptor, AreAcceptors, AreReports, AreWishes, IsOwn, IsAttempt, MayBeAttempt, IsOrderly}

-- ---- its own part

-- with other acceptors and another attempt
pub own_with : (acceptors : List (AcceptorState Entry)) (o : Option SlotAttempt) (idle : ℕ) (s : SequencerState) → AreAcceptors acceptors → idle ≤ 255 → IsOwn s
    → IsOwn (record s { acceptors = acceptors; attempt = o; idle = idle })
own_with acceptors o idle s are few is = record { acceptors = are; primaries = is.primaries; backups = is.backups; wishes = is.wishes; idle = few }

-- with other wishes
pub own_wishing : (wishes : List Command) (o : Option SlotAttempt) (s : SequencerState) → AreWishes wishes → IsOwn s
    → IsOwn (record s { wishes = wishes; attempt = o })
own_wishing wishes o s are is = record { acceptors = is.acceptors; primaries = is.primaries; backups = is.backups; wishes = are; idle = is.idle }

-- ---- acceptors

length_reaching : (acceptors : List (AcceptorState Entry)) (slot : ℕ) (acceptor : AcceptorState Entry)
    → length (set (reaching (slot + 1) acceptors) slot acceptor) ≡ length acceptors + (slot + 1 - length acceptors)
length_reaching acceptors slot acceptor =
    length-set (reaching (slot + 1) acceptors) slot acceptor ∙ length-append acceptors (replicate (slot + 1 - length acceptors) fresh_acceptor)
    ∙ ap (λ (count : ℕ). length acceptors + count) (length-replicate (slot + 1 - length acceptors) fresh_acceptor)

-- an element that is there, put where it is, changes nothing
pub set_back : {X : Type 0} (xs : List X) (i : ℕ) (d : X) → i < length xs → set (xs ++ replicate (i + 1 - length xs) d) i (get_or xs i d) ≡ xs
set_back {X} xs i d within =
    let none : i + 1 - length xs ≡ 0 = omega arith in
    ap (λ (count : ℕ). set (xs ++ replicate count d) i (get_or xs i d)) none ∙ ap (λ (ys : List X). set ys i (get_or xs i d)) (append-nil xs) ∙ set-get_or xs i d

-- what holds of fresh acceptors, of all that are there and of a new one
pub all_reaching : (P : AcceptorState Entry → Type 0) (acceptors : List (AcceptorState Entry)) (slot : ℕ) (acceptor : AcceptorState Entry) → P fresh_acceptor
    → AllByRecursion P acceptors → P acceptor
    → AllByRecursion P (set (reaching (slot + 1) acceptors) slot acceptor)
all_reaching P acceptors slot acceptor fresh all here =
    all_set P (reaching (slot + 1) acceptors) slot acceptor
    (all_append P acceptors (replicate (slot + 1 - length acceptors) fresh_acceptor) all (all_replicate P (slot + 1 - length acceptors) fresh_acceptor fresh)) here

acceptors_with : (acceptors : List (AcceptorState Entry)) (slot : ℕ) (acceptor : AcceptorState Entry) → slot < 1000000 → IsAcceptor acceptor
    → AreAcceptors acceptors
    → AreAcceptors (set (reaching (slot + 1) acceptors) slot acceptor)
acceptors_with acceptors slot acceptor low valid are =
    record { each = all_reaching IsAcceptor acceptors slot acceptor tt are.each valid; few = omega (arith, length_reaching acceptors slot acceptor, low, are.few) }

pub acceptor_valid : (s : SequencerState) (slot : ℕ) → IsOwn s → IsAcceptor (acceptor_at s slot)
acceptor_valid s slot is = all_or IsAcceptor s.acceptors slot fresh_acceptor is.acceptors.each tt

-- ---- its attempt

pub standing : (s : Node SequencerState) (a : SlotAttempt) → IsOrderly s → s.own.attempt ≡ Some a
    → IsAttempt (number_of s.base.me) s.base.cfg.seqs (length s.base.known) (length s.own.acceptors) a
standing s a is here =
    subst (MayBeAttempt (number_of s.base.me) s.base.cfg.seqs (length s.base.known) (length s.own.acceptors)) here is.attempt

-- the same attempt among more acceptors, further on
pub further : (replica seqs next slots more : ℕ) (a : SlotAttempt) (promises : List ℕ) (reported : Option (ℕ × Entry)) (sending : Option Entry) (acceptances : List ℕ)
    → IsAttempt replica seqs next slots a → a.slot < more → IsValidReport reported → MayBeValid sending
    → IsAttempt replica seqs next more (record a { attempt = record (a.attempt) { promises = promises; reported = reported; sending = sending; acceptances = acceptances } })
further replica seqs next slots more a promises reported sending acceptances at within told sent = record {
  replica_is = at.replica_is;
  seqs_are = at.seqs_are;
  slot = at.slot;
  slot_limit = at.slot_limit;
  acceptor = within;
  ballot = at.ballot;
  wish = at.wish;
  reported = told;
  sending = sent;
}

attempt_longer : (replica seqs next slots more : ℕ) (o : Option SlotAttempt) → slots ≤ more → MayBeAttempt replica seqs next slots o
    → MayBeAttempt replica seqs next more o
attempt_longer replica seqs next slots more None longer is = tt
attempt_longer replica seqs next slots more (Some a) longer is =
    further replica seqs next slots more a _ _ _ _ is (omega (arith, is.acceptor, longer)) is.reported is.sending

-- another acceptor at a slot, and another attempt, which is one among more acceptors
pub acceptor_put : (s : Node SequencerState) (slot : ℕ) (acceptor : AcceptorState Entry) (o : Option SlotAttempt) (idle : ℕ) → IsOrderly s
    → slot < 1000000 → IsAcceptor acceptor → idle ≤ 255
    → ((more : ℕ) → length s.own.acceptors ≤ more → slot < more → MayBeAttempt (number_of s.base.me) s.base.cfg.seqs (length s.base.known) more o)
    → IsOrderly (with_own (record (s.own) { acceptors = set (reaching (slot + 1) s.own.acceptors) slot acceptor; attempt = o; idle = idle }) s)
acceptor_put s slot acceptor o idle is low valid few attempt =
    let longer = length_reaching s.own.acceptors slot acceptor in
    record {
      base = is.base;
      own = own_with _ o idle s.own (acceptors_with s.own.acceptors slot acceptor low valid is.own.acceptors) few is.own;
      attempt = attempt _ (omega (arith, longer)) (omega (arith, longer));
    }

pub acceptor_changed : (s : Node SequencerState) (slot : ℕ) (acceptor : AcceptorState Entry) → IsOrderly s → slot < 1000000 → IsAcceptor acceptor
    → IsOrderly (with_own (with_acceptor slot acceptor s.own) s)
acceptor_changed s slot acceptor is low valid =
    acceptor_put s slot acceptor s.own.attempt s.own.idle is low valid is.own.idle (λ more longer within. attempt_longer _ _ _ _ more s.own.attempt longer is.attempt)

-- ---- a learned entry

fewer_wishes : (wishes : List Command) → AreWishes wishes → AreWishes (drop 1 wishes)
fewer_wishes [] are = are
fewer_wishes (wish ∷ wishes) are = record { each = are.each.1; few = omega (arith, are.few) }

-- an attempt for the slot of an entry ends, and the acceptors stay
pub record IsOver (before after : SequencerState) : Type 0 where
  pub own : IsOwn after
  pub acceptors : after.acceptors ≡ before.acceptors
  pub none : after.attempt ≡ None

pub over_is : (o : Option SlotAttempt) (slot : ℕ) (entry : Entry) (s : SequencerState) → s.attempt ≡ o → IsOwn s
    → ((a : SlotAttempt) → o ≡ Some a → a.slot ≡ slot)
    → IsOver s (attempt_over o slot entry s)
over_is None slot entry s here is next = record { own = is; acceptors = refl; none = here }
over_is (Some a) slot entry s here is next =
    on_test (IsOver s) (a.slot == slot) (wish_granted a.wished entry (with_attempt None s)) s
    (λ _. on_test (IsOver s) (is_entry a.wished entry) (record s { wishes = drop 1 s.wishes; attempt = None }) (with_attempt None s)
    (λ _. record { own = own_wishing (drop 1 s.wishes) None s (fewer_wishes s.wishes is.wishes) is; acceptors = refl; none = refl })
    (λ _. record { own = own_wishing s.wishes None s is.wishes is; acceptors = refl; none = refl }))
    (λ other. let same = eq-eqb a.slot slot (next a refl) in absurd (cc))

-- ---- reports

reports_with : (shard len : ℕ) (lengths : List ℕ) → IsPlace len → AreReports lengths → AreReports (with_greatest shard len lengths)
reports_with shard len lengths place are =
    let stood : slice_index lengths shard ≤ 2 ^ 48 = all_or IsPlace lengths shard 0 are.each (omega arith) in
    record {
      each = all_set IsPlace lengths shard (max len (slice_index lengths shard)) are.each (omega (arith, place, stood));
      six = length-set lengths shard (max len (slice_index lengths shard)) ∙ are.six;
    }

pub report_put : (from : NodeId) (len : ℕ) (s : Node SequencerState) → IsPlace len → IsOrderly s
    → IsOrderly (with_own (with_report from len s.own) s) × (reset_of s ≡ reset_of (with_own (with_report from len s.own) s))
report_put (nodes.Shard shard sides.Primary) len s place is =
    let primaries = reports_with shard len s.own.primaries place is.own.primaries in (
      record { base = is.base; own = record { acceptors = is.own.acceptors; primaries = primaries; backups = is.own.backups; wishes = is.own.wishes; idle = is.own.idle }; attempt = is.attempt },
      refl,
    )
report_put (nodes.Shard shard sides.Backup) len s place is =
    let backups = reports_with shard len s.own.backups place is.own.backups in (
      record { base = is.base; own = record { acceptors = is.own.acceptors; primaries = is.own.primaries; backups = backups; wishes = is.own.wishes; idle = is.own.idle }; attempt = is.attempt },
      refl,
    )
report_put _ len s place is = (is, refl)

-- ---- lives begin

only_own : (acceptors : List (AcceptorState Entry)) → AreAcceptors acceptors → IsOwn (only_acceptors acceptors)
only_own acceptors are =
    let none : AreReports (replicate 6 0) = record { each = all_replicate IsPlace 6 0 (omega arith); six = length-replicate {A = ℕ} 6 0 } in
    record { acceptors = are; primaries = none; backups = none; wishes = record { each = tt; few = omega arith }; idle = omega arith }

-- a restart leaves a node in order
pub reset_sound : (n : Node SequencerState) → IsOrderly n → IsOrderly (reset_of n)
reset_sound n is = record { base = base_reset n.base is.base; own = only_own n.own.acceptors is.own.acceptors; attempt = tt }

pub fresh_sound : (cfg : Config) (me : NodeId) → IsValidConfig cfg → IsNodeOf cfg me → IsOrderly (fresh_node cfg me)
fresh_sound cfg me valid here = record { base = base_fresh cfg me valid here; own = only_own [] (record { each = tt; few = omega arith }); attempt = tt }

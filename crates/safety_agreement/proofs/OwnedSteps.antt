-- A step of a sequencer takes ballots of its own, and replies to the owner of what comes.
use Rattle.std.proofs.Common.{◌≡◌, ◌∙◌, ℕ, ◌%◌, ◌<◌, ◌==◌, length, Option, Some, None, unwrap_or, max, inl, inr, sym, ap, subst, mod-eq_of_lt, arith}
use Rattle.std.specs.Prelude.{IsTrue}
use Rattle.std.specs.List.{AllByRecursion}
use Rattle.std.proofs.lemmas.Bool.{and_parts}
use Rattle.majority.specs.Ballots.{next_ballot}
use Rattle.majority.specs.Acceptors.{AcceptorState}
use Rattle.majority.specs.Proposers.{takes_zero, ballot_for}
use Rattle.majority.proofs.Numbers.{IsNextBallot_next, zero_from_test}
use Rattle.msg_wire.specs.Nodes.{number_of, is_sequencer}
use Rattle.msg_wire.specs.Valid.{IsNodeOf}
use Rattle.node_rules.specs.Nodes.{Node, agreed_by}
use Rattle.node_rules.specs.Turns.{Turn}
use Rattle.node_rules.proofs.Lists.{on_test, all_push}
use Rattle.node_rules.proofs.Places.{Comes, SitesAfter, unshown_sites}
use Rattle.seq_node.specs.States.{SlotAttempt, SequencerState, standing_ballot, acceptor_at, with_idle}
use Rattle.seq_node.proofs.Places.{Begins, Says, tells, announces, promises, accepts, prepares, proposes, fills, Stores, promised, accepted, begins_at_once, begins, sends, is_late, is_lower, is_waiting, Changes, waits, hears, reports, wishes, idles}
use Rattle.runs.specs.Names.{NodeId, Config, Entry, Item, Message, What, Event}
use Rattle.runs.specs.Names.nodes
use Rattle.runs.specs.Names.whats
use Rattle.safety_frame.proofs.NodeKinds.{sequencers}
use Rattle.safety_frame.proofs.Names.{IsNamed}
use Rattle.safety_agreement.specs.Owners.{IsOwner, GoesByOwner}
use Rattle.safety_agreement.proofs.Standing.{over_or_same, report_leaves}

-- ---- a new ballot

owned_for : (replica n highest : ℕ) (own : AcceptorState Entry) → replica < n → ballot_for replica n highest own % n ≡ replica
owned_for replica n highest own here =
    let floor = max highest (unwrap_or own.promised 0) in
    on_test (λ (ballot : ℕ). ballot % n ≡ replica) (takes_zero replica own) 0 (next_ballot replica n floor)
    (λ zero_taken.
    let first = zero_from_test replica (and_parts (replica == 0) _ zero_taken).0 in
    mod-eq_of_lt (omega (arith, here)) ∙ sym first)
    (λ _. (IsNextBallot_next replica n floor here).owned)

pub number_below : (cfg : Config) (node : NodeId) → IsNodeOf cfg node → IsTrue (is_sequencer node) → number_of node < cfg.seqs
number_below cfg (nodes.Seq number) here one = here
number_below cfg _ here one = absurd (cc)

-- ---- the attempt that may stand

abbrev pub MayOwn : Config → NodeId → Option SlotAttempt → Type 0
MayOwn cfg me None = Unit {0}
MayOwn cfg me (Some a) = IsOwner cfg me a.attempt.ballot

module _ (cfg : Config) (me : NodeId) (here : number_of me < cfg.seqs) where
  begins_owned : (s : Node SequencerState) (ballot : ℕ) (value : Entry) → IsNamed cfg me s → Begins s ballot value → IsOwner cfg me ballot
  begins_owned s ballot value named why =
      let own = acceptor_at s.own (length s.base.known) in
      let highest = standing_ballot (length s.base.known) s.own.attempt in
      let replica : number_of s.base.me ≡ number_of me = ap number_of named.1 in
      let seqs : s.base.cfg.seqs ≡ cfg.seqs = ap (λ c. c.seqs) named.0 in
      subst (λ (b : ℕ). b % cfg.seqs ≡ number_of me) (sym why.ballot_is)
      (subst (λ (n : ℕ). ballot_for (number_of s.base.me) n highest own % cfg.seqs ≡ number_of me) (sym seqs)
      (subst (λ (i : ℕ). ballot_for i cfg.seqs highest own % cfg.seqs ≡ number_of me) (sym replica)
      (owned_for (number_of me) cfg.seqs highest own here)))

  module _ (n : Node SequencerState) (event : Event) where
    stores_owned : (s : Node SequencerState) (item : Item) (own : SequencerState) → Stores n event s item own → IsNamed cfg me s
        → MayOwn cfg me s.own.attempt → MayOwn cfg me own.attempt
    stores_owned s _ _ (promised from at ballot comes free) named owned = owned
    stores_owned s _ _ (accepted from at ballot entry comes free) named owned = owned
    stores_owned s _ _ (begins_at_once value why) named owned = begins_owned s 0 value named why
    stores_owned s _ _ (begins ballot value why later) named owned = begins_owned s ballot value named why
    stores_owned s _ _ (sends a replica report value counted why) named owned = subst (MayOwn cfg me) counted.stands owned

    changes_owned : (s : Node SequencerState) (own : SequencerState) → Changes n event s own → MayOwn cfg me s.own.attempt → MayOwn cfg me own.attempt
    changes_owned s _ (waits a replica report _ counted (is_late late)) owned = subst (MayOwn cfg me) counted.stands owned
    changes_owned s _ (waits a replica report _ counted (is_lower greater e)) owned = subst (MayOwn cfg me) counted.stands owned
    changes_owned s _ (waits a replica report _ counted (is_waiting early few)) owned = subst (MayOwn cfg me) counted.stands owned
    changes_owned s _ (hears a replica value stands why sending) owned = subst (MayOwn cfg me) stands owned
    changes_owned s _ (reports from len comes) owned = subst (MayOwn cfg me) (sym (report_leaves from len s.own)) owned
    changes_owned s _ (wishes command why room) owned = owned
    changes_owned s _ (idles why) owned = owned

    learns_owned : (s : Node SequencerState) (entry : Entry) → MayOwn cfg me s.own.attempt → MayOwn cfg me (sequencers.learns s entry).attempt
    learns_owned s entry owned =
        elim (over_or_same s.own.attempt (agreed_by s.base).slots entry (with_idle 0 s.own)) [
          | inl over ↦ subst (MayOwn cfg me) (sym over) tt
          | inr same ↦ subst (MayOwn cfg me) (sym same) owned
        ]

    abbrev pub Owned : Turn SequencerState → Type 0
    Owned t = IsNamed cfg me t.state × MayOwn cfg me t.state.own.attempt

    pub owned_sites : IsNamed cfg me n → MayOwn cfg me n.own.attempt → SitesAfter sequencers.places sequencers.learns Owned n event
    owned_sites named owned =
        unshown_sites Owned
        (record {
          starts = (named, owned);
          restarts = λ e. (named, tt);
          learns = λ t entry why w. (w.0, learns_owned t.state entry w.1);
          stores = λ t item own why w. (w.0, stores_owned t.state item own why w.0 w.1);
          changes = λ t own why w. (w.0, changes_owned t.state own why w.1);
        })

    -- ---- what is sent: the asking owner is told by what comes

    abbrev pub AsksByOwner : Type 0
    AsksByOwner = (from : NodeId) (what : What) → Comes n event from what → (to : NodeId) × GoesByOwner cfg from to what

    says_owned : AsksByOwner → (s : Node SequencerState) (to : NodeId) (what : What) → Says n event s to what → MayOwn cfg me s.own.attempt
        → GoesByOwner cfg me to what
    says_owned asked s to _ (tells _ slot entry why known at) owned = tt
    says_owned asked s to _ (announces _ i slot entry at more known) owned = tt
    says_owned asked s to _ (promises _ slot ballot report comes unknown stands) owned = (asked to (whats.Prepare slot ballot) comes).1
    says_owned asked s to _ (accepts _ slot ballot entry comes unknown stands) owned = (asked to (whats.Accept slot ballot entry) comes).1
    says_owned asked s to _ (prepares _ i a at stands slot none bar) owned = subst (MayOwn cfg me) stands owned
    says_owned asked s to _ (proposes _ i a value at stands sending bar) owned = subst (MayOwn cfg me) stands owned
    says_owned asked s _ _ (fills i w tick uncovered at) owned = tt

    abbrev pub Told : Turn SequencerState → Type 0
    Told t = Owned t × AllByRecursion (λ (m : Message). GoesByOwner cfg me m.to m.what) t.sends

    pub step_told : IsNamed cfg me n → MayOwn cfg me n.own.attempt → AsksByOwner
        → AllByRecursion (λ (m : Message). GoesByOwner cfg me m.to m.what) (sequencers.step n event).sends
    step_told named owned asked =
        let sites = owned_sites named owned in
        (sequencers.walk Told n event
        (record {
          starts = (sites.starts, tt);
          restarts = λ e. (sites.restarts e, tt);
          learns = λ t entry why w. (sites.learns t entry why w.0, w.1);
          sees = λ t from at count entry why w. (sites.sees t from at count entry why w.0, w.1);
          ticks = λ t why w. (sites.ticks t why w.0, w.1);
          asks = λ t to why w. (w.0, all_push _ t.sends _ w.1 tt);
          says = λ t to what why w. (w.0, all_push _ t.sends _ w.1 (says_owned asked t.state to what why w.0.1));
          shows = λ t mark why w. absurd why;
          stores = λ t item own why w. (sites.stores t item own why w.0, w.1);
          changes = λ t own why w. (sites.changes t own why w.0, w.1);
        })).1

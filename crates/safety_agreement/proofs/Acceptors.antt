-- A slot's acceptor has the greatest ballot of its items and the last vote: below its promise it takes nothing, so that the ballots of a
-- slot don't fall along the items.
use Rattle.std.proofs.Common.{◌≡◌, ℕ, ◌==◌, List, [], ◌∷◌, ◌++◌, length, None, refl, sym, subst, append_assoc, append-nil}
use Rattle.majority.specs.Ballots.{greater_promise}
use Rattle.majority.specs.Acceptors.{AcceptorState}
use Rattle.majority.proofs.Lists.{Contains_none}
use Rattle.msg_wire.specs.Nodes.{number_of}
use Rattle.msg_wire.specs.Valid.{IsValidConfig}
use Rattle.node_rules.specs.Names.{Event}
use Rattle.node_rules.specs.Nodes.{Node}
use Rattle.node_rules.specs.Turns.{Turn}
use Rattle.node_rules.proofs.Limits.{seqs_within}
use Rattle.node_rules.proofs.Places.{unshown_sites}
use Rattle.seq_node.specs.States.{SequencerState, acceptor_at, standing_ballot}
use Rattle.seq_node.proofs.Places.{Begins, Stores, promised, accepted, begins_at_once, begins, sends}
use Rattle.seq_node.proofs.Ballots.{open_ballot}
use Rattle.net_model.specs.Pasts.{Past}
use Rattle.runs.specs.Names.{Config, Entry, Item}
use Rattle.runs.specs.Names.nodes
use Rattle.runs.specs.Names.items
use Rattle.runs.specs.Runs.{IsPastOf}
use Rattle.runs.proofs.SameNodes.{node_itself}
use Rattle.safety_frame.specs.StableItems.{after_item}
use Rattle.safety_frame.proofs.NodeKinds.{after, stored, sequencers}
use Rattle.safety_frame.proofs.Names.{states_named}
use Rattle.safety_frame.proofs.Acceptors.{acceptors_by_items}
use Rattle.safety_frame.proofs.Pasts.{own_items, other_items}
use Rattle.safety_frame.proofs.Inductions.{OfStates, every_state}
use Rattle.safety_frame.specs.EveryRun.{OfEveryRun}
use Rattle.safety_agreement.specs.Acceptors.{HasLast, AcceptorIsItems}
use Rattle.safety_agreement.proofs.Pushed.{IsApart, apart_pushed, promise_at, vote_at}

-- ---- at each place

-- a new ballot is above what the own acceptor has promised
pub new_is_free : (cfg : Config) (s : Node SequencerState) (ballot : ℕ) (value : Entry) → IsValidConfig cfg → s.base.cfg ≡ cfg → Begins s ballot value
    → greater_promise (acceptor_at s.own (length s.base.known)).promised ballot ≡ None
new_is_free cfg s ballot value valid same why =
    let own = acceptor_at s.own (length s.base.known) in
    let some = (seqs_within s.base.cfg.seqs (subst IsValidConfig (sym same) valid).seqs).0 in
    subst (λ (b : ℕ). greater_promise own.promised b ≡ None) (sym why.ballot_is)
    (open_ballot (number_of s.base.me) s.base.cfg.seqs (standing_ballot (length s.base.known) s.own.attempt) own some)

module _ (cfg : Config) (valid : IsValidConfig cfg) (slot : ℕ) where
  -- an item goes into an acceptor that has promised nothing greater
  goes_in : (n : Node SequencerState) (event : Event) (s : Node SequencerState) (item : Item) (own : SequencerState) (earlier : List Item)
      → Stores n event s item own → s.base.cfg ≡ cfg
      → HasLast slot earlier (acceptor_at s.own slot) → HasLast slot (earlier ++ item ∷ []) (after_item slot (acceptor_at s.own slot) item)
  goes_in n event s _ _ earlier (promised from at ballot comes free) same has =
      promise_at slot earlier (acceptor_at s.own slot) at ballot (at == slot) refl
      (λ here. subst (λ (i : ℕ). greater_promise (acceptor_at s.own i).promised ballot ≡ None) here free.none_greater) has
  goes_in n event s _ _ earlier (accepted from at ballot entry comes free) same has =
      vote_at slot earlier (acceptor_at s.own slot) at ballot entry (at == slot) refl
      (λ here. subst (λ (i : ℕ). greater_promise (acceptor_at s.own i).promised ballot ≡ None) here free.none_greater) has
  goes_in n event s _ _ earlier (begins_at_once value why) same has =
      vote_at slot earlier (acceptor_at s.own slot) (length s.base.known) 0 value (length s.base.known == slot) refl
      (λ here. subst (λ (i : ℕ). greater_promise (acceptor_at s.own i).promised 0 ≡ None) here (new_is_free cfg s 0 value valid same why)) has
  goes_in n event s _ _ earlier (begins ballot value why later) same has =
      promise_at slot earlier (acceptor_at s.own slot) (length s.base.known) ballot (length s.base.known == slot) refl
      (λ here. subst (λ (i : ℕ). greater_promise (acceptor_at s.own i).promised ballot ≡ None) here (new_is_free cfg s ballot value valid same why)) has
  goes_in n event s _ _ earlier (sends a replica report value counted why) same has =
      vote_at slot earlier (acceptor_at s.own slot) a.slot a.attempt.ballot value (a.slot == slot) refl
      (λ here. subst (λ (i : ℕ). greater_promise (acceptor_at s.own i).promised a.attempt.ballot ≡ None) here why.none_greater) has

  -- of a turn, after what its node stored earlier
  abbrev Holds : List Item → Turn SequencerState → Type 0
  Holds earlier t = (t.state.base.cfg ≡ cfg) × HasLast slot (earlier ++ t.stable) (acceptor_at t.state.own slot)

  -- with one item more, the acceptor is what the item makes of it
  grown : (earlier stable : List Item) (item : Item) (old new : AcceptorState Entry) → new ≡ after_item slot old item
      → HasLast slot ((earlier ++ stable) ++ item ∷ []) (after_item slot old item) → HasLast slot (earlier ++ (stable ++ item ∷ [])) new
  grown earlier stable item old new is has =
      subst (λ (l : List Item). HasLast slot l new) (append_assoc earlier stable (item ∷ []))
      (subst (HasLast slot ((earlier ++ stable) ++ item ∷ [])) (sym is) has)

  kept : (l : List Item) (old new : AcceptorState Entry) → new ≡ old → HasLast slot l old → HasLast slot l new
  kept l old new is has = subst (HasLast slot l) (sym is) has

  known_apart : (entry : Entry) → IsApart slot (items.Known entry)
  known_apart entry = record { no_promise = λ ballot same. cc; no_vote = λ ballot v same. cc }

  step_holds : (n : Node SequencerState) (event : Event) (earlier : List Item) → n.base.cfg ≡ cfg → HasLast slot earlier (acceptor_at n.own slot)
      → HasLast slot (earlier ++ (sequencers.step n event).stable) (acceptor_at (sequencers.step n event).state.own slot)
  step_holds n event earlier same has =
      let parts = acceptors_by_items slot in
      let start = subst (λ (l : List Item). HasLast slot l (acceptor_at n.own slot)) (sym (append-nil earlier)) has in
      (sequencers.walk _ n event
      (unshown_sites (Holds earlier)
      (record {
        starts = (same, start);
        restarts = λ e. (same, kept (earlier ++ []) _ _ (parts.resets n) start);
        learns = λ t entry why w. (
          w.0,
          grown earlier t.stable (items.Known entry) (acceptor_at t.state.own slot) _ (parts.learns t.state entry)
              (apart_pushed slot (earlier ++ t.stable) (items.Known entry) (acceptor_at t.state.own slot) (known_apart entry) w.1),
        );
        stores = λ t item own why w. (
          w.0,
          grown earlier t.stable item (acceptor_at t.state.own slot) _ (parts.stores n event t.state item own why)
              (goes_in n event t.state item own (earlier ++ t.stable) why w.0 w.1),
        );
        changes = λ t own why w. (w.0, kept (earlier ++ t.stable) _ _ (parts.changes n event t.state own why) w.1);
      }))).1

  runs_hold : (past : Past) → IsPastOf cfg past
      → OfStates sequencers cfg valid (λ past node n. HasLast slot (stored sequencers cfg node past) (acceptor_at n.own slot)) past
  runs_hold =
      every_state sequencers cfg valid (λ past node n. HasLast slot (stored sequencers cfg node past) (acceptor_at n.own slot))
      (record {
        starts = λ node one here. record {
          of_item = tt;
          promised = λ ballot c. absurd (Contains_none _ c);
          accepted = λ ballot entry c. absurd (Contains_none _ c);
          last = λ ballot entry c. Contains_none _ c;
          rises = tt;
        };
        steps = λ e past run one before.
            let n = after sequencers cfg e.node past in
            let named = states_named sequencers cfg valid past run.1 e.node one run.0.within in
            subst (λ (l : List Item). HasLast slot l (acceptor_at (sequencers.step n e.event).state.own slot))
            (sym (own_items sequencers cfg e.node e past (node_itself e.node)))
            (step_holds n e.event (stored sequencers cfg e.node past) named.0 (before e.node one run.0.within));
        stays = λ e past node n run other has.
            subst (λ (l : List Item). HasLast slot l (acceptor_at n.own slot)) (sym (other_items sequencers cfg node e past other)) has;
      })

pub acceptor_is_items : OfEveryRun AcceptorIsItems
acceptor_is_items cfg past valid run slot number here = runs_hold cfg valid slot past run (nodes.Seq number) refl here

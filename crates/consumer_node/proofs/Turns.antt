-- What a consumer's turn keeps: the node is a consumer, its stored items lead to what a restart leaves, and what it stores and sends is valid.
use Rattle.std.proofs.Common.{◌≡◌, ◌+◌, ◌-◌, ◌<◌, List, [], ◌∷◌, ◌++◌, refl, sym, ap, ◌∙◌, subst, arith}
use Rattle.std.specs.List.{fold}
use Rattle.std.proofs.lemmas.List.Sums.{fold-append}
use Rattle.std.proofs.lemmas.Option.{slice_get_within}
use Rattle.consumer_node.specs.inside.Names.{Owner, IsValidRecord, Agreement, IsBelowFirst, effect_of, number_of, Base, Node, agreed_by, IsBase, learned, LaneState}
use Rattle.consumer_node.specs.inside.Names.{with_record, Meaning, ConsumerState, with_lanes, close, fit, IsOwn, IsConsumer, handle, consumer_step}
use Rattle.spec_base.specs.Spelling.{IsValidNode}
use Rattle.msg_wire.specs.Valid.{IsValidEvent, IsValidItem, IsValidWhat, IsValidMessage, AreValidItems}
use Rattle.msg_wire.specs.Steps.{AreValidMessages}
use Rattle.node_rules.specs.Names.{NodeId, Entry, Event, Record, What, Item, Message}
use Rattle.node_rules.specs.Names.items
use Rattle.node_rules.specs.Names.whats
use Rattle.node_rules.specs.Turns.{Turn, started, own_of, agreed, count_known, message_to, put_own, send}
use Rattle.node_rules.proofs.Kept.{comes_valid, told_valid, asks_valid}
use Rattle.node_rules.proofs.Lists.{all_push}
use Rattle.node_rules.proofs.Places.{IsTold}
use Rattle.node_rules.proofs.Limits.{node_valid, base_knowing, base_seeing, base_ticking, base_reset}
use Rattle.consumer_node.proofs.Applied.{valid_at}
use Rattle.consumer_node.proofs.Bare.{bare_lanes, with_bare, bare_of, bare_put, bare_closed, bare_without, fits_known, fits_confirmed}
use Rattle.consumer_node.proofs.Learned.{own_knowing, own_cut, own_uncut, own_closed}
use Rattle.consumer_node.proofs.Owned.{IsLearned, Any, own_open, own_put, own_apply, own_confirm, own_reset}
use Rattle.consumer_node.proofs.Owners.{agreement_by, owner_small, owner_low}
use Rattle.consumer_node.proofs.Reached.{IsReached, OutputsFitFrom, reached_none, reached_next}
use Rattle.consumer_node.proofs.Places.{Confirms, Says, fetches_wanted, Stage, between_rules, entry_known, removal_shown, undo_done, all_applied, output_due, StagedSites, confirmed_by}
use Rattle.consumer_node.proofs.Walk.{staged_handle, staged_walk}

-- what holds of its own part at each stage
abbrev pub Owns : {A : Type 0} → Stage → Agreement → ConsumerState A → Type 0
Owns between_rules a s = IsOwn a s
Owns (entry_known effect) a s = IsLearned (IsBelowFirst effect) a s
Owns (removal_shown first) a s = IsLearned (λ p. p < first) a s
Owns undo_done a s = IsLearned Any a s
Owns all_applied a s = IsOwn a s
Owns (output_due output) a s = IsOwn a s

-- what it says is valid
said_valid : {A : Type 0} (app : Meaning A) (n : Node (ConsumerState A)) (event : Event) (s : Node (ConsumerState A)) (to : NodeId) (what : What)
    → IsBase s.base → Says app n event s to what → IsValidNode to × IsValidWhat what
said_valid app n event s to what base (fetches_wanted o side position tick there wanted) =
    let a = agreement_by s.base base in
    (omega (arith, owner_small (agreed_by s.base) position o a there), omega (arith, owner_low (agreed_by s.base) position o a there))

-- a node's base, its own part, and what the turn gives so far
pub record AreParts (b : Base) (Own Given : Type 0) : Type 0 where
  pub base : IsBase b
  pub own : Own
  pub given : Given

other_own : {b : Base} {Own Other Given : Type 0} → (IsBase b → Own → Other) → AreParts b Own Given → AreParts b Other Given
other_own change is = record { base = is.base; own = change is.base is.own; given = is.given }

module _ {A : Type 0} (app : Meaning A) where
  -- items lead from what they leave of a node to what they leave of another, and they and the messages are valid
  pub record IsGiven (n left : Node (ConsumerState A)) (stored : List Item) (sent : List Message) : Type 0 where
    pub leads : fold (fit app) (bare_of n) stored ≡ left
    pub reached : IsReached app n.own.base left.own.base
    pub stable : OutputsFitFrom app n.own.base → AreValidItems stored
    pub sends : AreValidMessages sent

  -- one item more
  given_item : (n left next : Node (ConsumerState A)) (stored : List Item) (sent : List Message) (item : Item) → fit app left item ≡ next
      → IsReached app n.own.base next.own.base → (OutputsFitFrom app n.own.base → IsValidItem item)
      → IsGiven n left stored sent → IsGiven n next (stored ++ item ∷ []) sent
  given_item n left next stored sent item fits reached valid is = record {
    leads = fold-append (fit app) (bare_of n) stored (item ∷ []) ∙ (ap (λ (x : Node (ConsumerState A)). fit app x item) is.leads ∙ fits);
    reached = reached;
    stable = λ outputs. all_push IsValidItem stored item (is.stable outputs) (valid outputs);
    sends = is.sends;
  }

  module _ (n : Node (ConsumerState A)) where
    abbrev pub Given : Turn (ConsumerState A) → Type 0
    Given t = IsGiven n (bare_of t.state) t.stable t.sends

    abbrev pub Keeps : Stage → Turn (ConsumerState A) → Type 0
    Keeps stage t = AreParts t.state.base (Owns stage (agreed t) (own_of t)) (Given t)

    -- other lanes of which the items leave the same
    other_lanes : (stage next : Stage) (lanes : List LaneState) (t : Turn (ConsumerState A)) → bare_lanes lanes ≡ bare_lanes (own_of t).lanes
        → (IsBase t.state.base → Owns stage (agreed t) (own_of t) → Owns next (agreed t) (with_lanes lanes (own_of t)))
        → Keeps stage t → Keeps next (put_own (with_lanes lanes (own_of t)) t)
    other_lanes stage next lanes t same change is = record {
      base = is.base;
      own = change is.base is.own;
      given = subst (λ (left : Node (ConsumerState A)). IsGiven n left t.stable t.sends) (ap (with_bare t.state (own_of t)) (sym same)) is.given;
    }

    kept_confirmed : (t : Turn (ConsumerState A)) (rec : Record) (o : Owner) → Confirms t.state rec o → Keeps all_applied t
        → Keeps (output_due (app.output (own_of t).base rec)) (confirmed_by app rec o t)
    kept_confirmed t rec o why is =
        let output = app.output (own_of t).base rec in
        let valid : IsValidRecord rec = valid_at (agreed t) (own_of t) 0 rec is.own (slice_get_within (own_of t).pending 0 rec why.oldest) why.oldest in
        let reached = is.given.reached in
        record {
          base = is.base;
          own = own_confirm app (agreed t) (own_of t) rec o (agreement_by t.state.base is.base) why.here is.own;
          given = given_item n (bare_of t.state) _ t.stable t.sends (items.Confirmed rec output) (fits_confirmed app t.state rec output o why.here)
              (reached_next app n.own.base (own_of t).base rec valid reached) (λ outputs. (valid, outputs (own_of t).base rec reached valid)) is.given;
        }

    -- ---- from a consumer

    -- the node is a consumer, and what the turn gives so far
    pub record IsConsumerTurn (t : Turn (ConsumerState A)) : Type 0 where
      pub sound : IsConsumer t.state
      pub given : IsGiven n (bare_of t.state) t.stable t.sends

    kept_started : IsConsumer n → Keeps between_rules (started n)
    kept_started is = record { base = is.base; own = is.own; given = record { leads = refl; reached = reached_none app n.own.base; stable = λ outputs. tt; sends = tt } }

    kept : (t : Turn (ConsumerState A)) → Keeps between_rules t → IsConsumerTurn t
    kept t is = record { sound = record { base = is.base; own = is.own }; given = is.given }

    -- ---- a valid event

    module _ (event : Event) (valid : IsValidEvent event) where
      kept_send : (t : Turn (ConsumerState A)) (to : NodeId) (what : What) → IsValidNode to × IsValidWhat what → Keeps between_rules t
          → Keeps between_rules (send to what t)
      kept_send t to what said is =
          let message : IsValidMessage (message_to t what to) = record { from = node_valid t.state.base.cfg t.state.base.me is.base.cfg is.base.me; to = said.0; what = said.1 } in
          record {
            base = is.base;
            own = is.own;
            given = record {
              leads = is.given.leads;
              reached = is.given.reached;
              stable = is.given.stable;
              sends = all_push IsValidMessage t.sends (message_to t what to) is.given.sends message;
            };
          }

      kept_learned : (t : Turn (ConsumerState A)) (entry : Entry) → IsTold n event t.state entry → Keeps between_rules t
          → Keeps (entry_known (effect_of (agreed t) entry)) (learned entry t)
      kept_learned t entry told is =
          let fits = told_valid n event t.state entry told valid in
          record {
            base = base_knowing entry t.state.base fits.0 fits.1 is.base;
            own = own_knowing t.state.base entry (own_of t) is.base (own_open (agreed t) (own_of t) is.own);
            given = given_item n (bare_of t.state) _ t.stable t.sends (items.Known entry) (fits_known app t.state entry fits.1) is.given.reached (λ _. fits.0) is.given;
          }

      pub kept_sites : StagedSites app Keeps n event
      kept_sites = record {
        asks = λ t to why is. kept_send t to (whats.Learn (count_known t)) (asks_valid n event t.state to why valid is.base) is;
        says = λ t to what why is. kept_send t to what (said_valid app n event t.state to what is.base why) is;
        sees = λ t from slot count entry comes is.
            let few = (comes_valid n event from (whats.Decided slot count entry) comes valid).1.2 in
            record { base = base_seeing count t.state.base few is.base; own = is.own; given = is.given };
        ticks = λ t _ is. record { base = base_ticking t.state.base is.base; own = is.own; given = is.given };
        rules = record {
          holds = λ t from local rec comes is.
              other_lanes between_rules between_rules (with_record (own_of t).lanes (number_of from) local rec) t (bare_put (own_of t).lanes (number_of from) local rec)
              (λ _ own. own_put (agreed t) (own_of t) (number_of from) local rec (comes_valid n event from (whats.Deliver local rec) comes valid).1.1 own) is;
          learns = kept_learned;
          notices = λ t shard first is. is;
          undoes = λ t first past is. other_own (λ _ own. own_cut (λ p. p < first) (agreed t) (own_of t) (first - (own_of t).confirmed) (λ i below. omega (arith, below)) own) is;
          undoes_none = λ t first none is. other_own (λ _ own. own_uncut (λ p. p < first) (agreed t) (own_of t) (λ i below. omega (arith, below, none)) own) is;
          moves_none = λ t effect stays is. other_own (λ _ own. own_uncut (IsBelowFirst effect) (agreed t) (own_of t) (λ i below. stays ((own_of t).confirmed + i)) own) is;
          closes = λ t is.
              other_lanes undo_done between_rules (fold close (own_of t).lanes (agreed t).gone) t (bare_closed (agreed t).gone (own_of t).lanes)
              (λ base own. own_closed (agreed t) (own_of t) (agreement_by t.state.base base) own) is;
          applies = λ t rec held is. other_own (λ _ own. own_apply (agreed t) (own_of t) rec held own) is;
          leaves_none = λ t none is. is;
          confirms = kept_confirmed;
          gives = λ t output some is. is;
          gives_none = λ t output none is. is;
          restarts = λ _ is. record {
            base = base_reset n.base is.base;
            own = own_reset (agreed_by n.base) n.own is.own;
            given = record { leads = ap (with_bare n n.own) (sym (bare_without n.own.lanes)); reached = reached_none app n.own.base; stable = λ outputs. tt; sends = tt };
          };
        };
      }

    -- after what an event does by itself, and after the whole step
    pub kept_handle : (event : Event) → IsConsumer n → IsValidEvent event → IsConsumerTurn (handle event (started n))
    kept_handle event is valid = kept _ (staged_handle app Keeps n event (kept_sites event valid) (kept_started is))

    pub kept_step : (event : Event) → IsConsumer n → IsValidEvent event → IsConsumerTurn (consumer_step app n event)
    kept_step event is valid = kept _ (staged_walk app Keeps n event (kept_sites event valid) (kept_started is))

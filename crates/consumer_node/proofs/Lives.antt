-- Every life of valid events: its node is a consumer, its steps are valid, and its stored items give what a restart leaves. And what an event by
-- itself stores, and what holds as one record more is applied or confirmed.
use Rattle.std.proofs.Common.{◌≡◌, List, [], ◌∷◌, refl, sym, ap, ◌∙◌, ◌<◌, ◌++◌, length, length-append, Some, subst, arith}
use Rattle.std.specs.List.{AllByRecursion, fold}
use Rattle.std.proofs.lemmas.List.Sums.{fold-append}
use Rattle.msg_wire.specs.Steps.{IsValidStep}
use Rattle.consumer_node.specs.inside.Names.{IsValidConfig, IsNodeOf, IsValidEvent, AreValidItems, Node, agreed_by, with_own, Meaning, ConsumerState, applied_of}
use Rattle.consumer_node.specs.inside.Names.{with_pending, consumer_step, handle, fit, closed_by, fresh_node, IsConsumer, held_for, Owner, IsValidRecord}
use Rattle.consumer_node.specs.inside.Names.{located, with_confirmed}
use Rattle.node_rules.specs.Names.{NodeId, Config, Event, Record}
use Rattle.node_rules.specs.Turns.{Turn, step_of, started}
use Rattle.node_rules.specs.Lives.{Life, lived_on}
use Rattle.consumer_node.specs.Laws.{consumer_life, RestartIsTheItems, StepsAreValid}
use Rattle.consumer_node.proofs.Bare.{bare_of, closed_bare}
use Rattle.consumer_node.proofs.Owned.{own_apply, own_confirm}
pub use Rattle.consumer_node.proofs.Items.{fresh_sound}
use Rattle.consumer_node.proofs.Reached.{IsReached, OutputsFitFrom, reached_none, reached_later, fit_later}
use Rattle.consumer_node.proofs.Turns.{IsConsumerTurn}
pub use Rattle.consumer_node.proofs.Turns.{kept_step}
use Rattle.consumer_node.proofs.Owners.{agreement_by}
use Rattle.consumer_node.proofs.Applied.{IsConsumer_few, IsConsumer_valid}
pub use Rattle.consumer_node.proofs.Turns.{kept_handle}

module _ {A : Type 0} (app : Meaning A) where
  -- ---- lives

  -- what holds of a life so far
  pub record IsLife (cfg : Config) (me : NodeId) (life : Life (ConsumerState A)) : Type 0 where
    pub sound : IsConsumer life.node
    pub reached : IsReached app (app.fresh cfg.app) life.node.own.base
    pub stored : fold (fit app) (fresh_node app cfg me) life.stored ≡ bare_of life.node

  lived : (cfg : Config) (me : NodeId) (life : Life (ConsumerState A)) (t : Turn (ConsumerState A)) → IsLife cfg me life → IsConsumerTurn app life.node t
      → IsLife cfg me (lived_on life t)
  lived cfg me life t is kept = record {
    sound = kept.sound;
    reached = reached_later app (app.fresh cfg.app) life.node.own.base t.state.own.base is.reached kept.given.reached;
    stored =
        fold-append (fit app) (fresh_node app cfg me) life.stored t.stable
        ∙ (ap (λ (m : Node (ConsumerState A)). fold (fit app) m t.stable) is.stored ∙ kept.given.leads);
  }

  pub lives : (cfg : Config) (me : NodeId) (events : List Event) → IsValidConfig cfg → IsNodeOf cfg me → AllByRecursion IsValidEvent events
      → IsLife cfg me (consumer_life app cfg me events)
  lives cfg me [] valid here each = record { sound = fresh_sound app cfg me valid here; reached = reached_none app (app.fresh cfg.app); stored = refl }
  lives cfg me (event ∷ events) valid here each =
      let before = lives cfg me events valid here each.1 in
      let node = (consumer_life app cfg me events).node in
      lived cfg me (consumer_life app cfg me events) (consumer_step app node event) before (kept_step app node event before.sound each.0)

  pub restart_is_the_items : RestartIsTheItems app
  restart_is_the_items cfg me events valid here each =
      let life = lives cfg me events valid here each in
      sym (ap closed_by life.stored ∙ closed_bare (consumer_life app cfg me events).node life.sound)

  -- where what is written in the states that come after the fresh one fits
  pub reached_steps_are_valid : (cfg : Config) (me : NodeId) (events : List Event) (event : Event) → OutputsFitFrom app (app.fresh cfg.app) → IsValidConfig cfg
      → IsNodeOf cfg me → AllByRecursion IsValidEvent events → IsValidEvent event
      → IsValidStep (step_of (consumer_step app (consumer_life app cfg me events).node event))
  reached_steps_are_valid cfg me events event fit valid here each next =
      let node = (consumer_life app cfg me events).node in
      let life = lives cfg me events valid here each in
      let kept = kept_step app node event life.sound next in
      record { stable = kept.given.stable (fit_later app (app.fresh cfg.app) node.own.base life.reached fit); sends = kept.given.sends }

  pub steps_are_valid : StepsAreValid app
  steps_are_valid outputs cfg me events event valid here each next = reached_steps_are_valid cfg me events event (λ state rec reached written. outputs state rec) valid here each next

-- ---- what an event by itself stores

-- what it stores is valid whatever the application writes, since none of it is output
pub stable_handle : {A : Type 0} (app : Meaning A) (n : Node (ConsumerState A)) (event : Event) → IsConsumer n → IsValidEvent event
    → AreValidItems (handle event (started n)).stable
stable_handle app n event is valid =
    (kept_handle (record { fresh = app.fresh; next = app.next; output = λ state rec. [] }) n event is valid).given.stable (λ state rec reached short. omega arith)

-- ---- one record more

pub applied_sound : {A : Type 0} (n : Node (ConsumerState A)) (rec : Record) → held_for (agreed_by n.base) n.own (applied_of n.own) ≡ Some rec → IsConsumer n
    → IsConsumer (with_own (with_pending (n.own.pending ++ rec ∷ []) n.own) n)
applied_sound n rec held is = record { base = is.base; own = own_apply (agreed_by n.base) n.own rec held is.own }

pub applied_room : {A : Type 0} (n : Node (ConsumerState A)) (rec : Record) → held_for (agreed_by n.base) n.own (applied_of n.own) ≡ Some rec → IsConsumer n
    → length n.own.pending < 3840
applied_room n rec held is =
    let few = IsConsumer_few (with_own (with_pending (n.own.pending ++ rec ∷ []) n.own) n) (applied_sound n rec held is) in
    omega (arith, few, length-append n.own.pending (rec ∷ []))

pub confirmed_sound : {A : Type 0} (app : Meaning A) (n : Node (ConsumerState A)) (rec : Record) (o : Owner) (own : ConsumerState A)
    → located (agreed_by n.base) n.own.confirmed ≡ Some o → own ≡ with_confirmed app rec o n.own → IsConsumer n → IsConsumer (with_own own n)
confirmed_sound {A} app n rec o own here same is =
    subst (λ (s : ConsumerState A). IsConsumer (with_own s n)) (sym same)
    (record { base = is.base; own = own_confirm app (agreed_by n.base) n.own rec o (agreement_by n.base is.base) here is.own })

pub oldest_valid : {A : Type 0} (n : Node (ConsumerState A)) (rec : Record) (rest : List Record) → n.own.pending ≡ rec ∷ rest → IsConsumer n → IsValidRecord rec
oldest_valid n rec rest oldest is = (subst (AllByRecursion IsValidRecord) oldest (IsConsumer_valid n is)).0

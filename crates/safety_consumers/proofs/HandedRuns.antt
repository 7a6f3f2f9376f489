-- Of every run: what was handed to a consumer in reach since its last restart is settled, and what it holds was handed.
use Rattle.std.proofs.Common.{◌≡◌, ◌∙◌, ℕ, ◌<◌, ◌&&◌, not, Bool, true, false, [], ◌∷◌, Option, None, refl, sym, ap, subst, inl, inr, arith}
use Rattle.std.specs.Prelude.{is_some, IsSome}
use Rattle.std.proofs.lemmas.Bool.{false≢true, cases_Bool, and_parts, ltb-true}
use Rattle.app_law.specs.declared.any_app.AnyApp.{AnyApp}
use Rattle.fix_ante.specs.declared.spots.Owner.{Owner}
use Rattle.cut_core.specs.Agreements.{Agreement}
use Rattle.msg_wire.specs.Heeded.{goes_between, is_heeded}
use Rattle.msg_wire.specs.Nodes.{is_node_of, is_replica, is_consumer, number_of, same_node}
use Rattle.msg_wire.specs.Valid.{IsValidConfig, IsValidEvent, IsValidMessage}
use Rattle.net_model.specs.Pasts.{Past, SinceRestart, is_restart, is_restart_of}
use Rattle.node_rules.specs.Nodes.{Node, agreed_by}
use Rattle.consumer_node.specs.Apps.{any_meaning}
use Rattle.consumer_node.specs.Speculation.{held_of}
use Rattle.consumer_node.specs.States.{ConsumerState}
use Rattle.consumer_node.specs.Steps.{consumer_step}
use Rattle.runs.specs.Names.{NodeId, Side, Config, Record, Message, What, Event, HistoryEntry}
use Rattle.runs.specs.Names.nodes
use Rattle.runs.specs.Names.whats
use Rattle.runs.specs.Names.events
use Rattle.runs.specs.Runs.{IsPastOf, Comes as ComesIn}
use Rattle.runs.specs.Known.{agreed_at, agreed_after}
use Rattle.runs.specs.Marks.{known_by}
use Rattle.runs.specs.Eagerness.{Hands}
use Rattle.runs.proofs.SameNodes.{same_node_is, node_itself}
use Rattle.safety_frame.specs.EveryRun.{OfEveryRun}
use Rattle.safety_frame.specs.Heeded.{IsHeeded}
use Rattle.safety_frame.proofs.Heeding.{messages_are_heeded}
use Rattle.safety_frame.proofs.NodeKinds.{after, consumers}
use Rattle.safety_frame.proofs.Inductions.{every_past}
use Rattle.safety_frame.proofs.Pasts.{own_state, other_state, other_stored, on_own}
use Rattle.safety_consumers.specs.Handed.{IsSettled, IsHandedHeld, HandedIsHeld}
use Rattle.safety_consumers.proofs.EagerRestarts.{others_restart, own_restart, since_before, since_now}
use Rattle.safety_consumers.proofs.HandedSettled.{step_settled, step_settles}
use Rattle.safety_consumers.proofs.HandedSteps.{IsDelivered, step_holds, nothing_left}
use Rattle.safety_consumers.proofs.HandedStates.{named, agreed_is, sound, floor_is}
use Rattle.safety_consumers.proofs.AppliedGreatest.{nothing_fresh}

-- ---- names and messages

replica_named : (node : NodeId) → is_replica node ≡ true → (side : Side) × (node ≡ nodes.Shard (number_of node) side)
replica_named (nodes.Shard shard side) is = (side, refl)
replica_named _ is = absurd (cc)

message_is : (m : Message) (from to : NodeId) (what : What) → m.from ≡ from → m.to ≡ to → m.what ≡ what
    → m ≡ record { from = from; to = to; what = what }
message_is m from to what a b c =
    let made : NodeId → NodeId → What → Message = λ x y w. record { from = x; to = y; what = w } in
    ap (λ x. made x m.to m.what) a ∙ (ap (λ y. made from y m.what) b ∙ ap (made from to) c)

-- ---- restarts

restart_empty : (n : Node (ConsumerState AnyApp)) (event : Event) (o : Owner) → is_restart event ≡ true
    → held_of (consumer_step any_meaning n event).state.own.lanes o ≡ None
restart_empty n events.Restart o is = nothing_left n.own o
restart_empty n _ o is = absurd (cc)

none_held : (held : Option Record) → held ≡ None → IsSome held → ⊥
none_held held none some = false≢true (sym (ap is_some none) ∙ some)

module _ (cfg : Config) (valid : IsValidConfig cfg) (number : ℕ) (here : number < cfg.consumers) (o : Owner) where
  abbrev pub node : NodeId
  node = nodes.Consumer number

  abbrev WasHanded : Past → Type 0
  WasHanded past = SinceRestart node (Hands cfg number o) past

  abbrev handing : Side → Record → Message
  handing side rec = record { from = nodes.Shard o.shard side; to = node; what = whats.Deliver o.local rec }

  -- ---- what is handed comes from a replica of the cluster

  hands_small : (e : HistoryEntry) (past : Past) → IsPastOf cfg (e ∷ past) → Hands cfg number o past e → o.shard < 6
  hands_small e past run hands =
      let m : Message = handing hands.handed.0 hands.handed.1 in
      let comes : ComesIn past e.node (events.Deliver m) = subst (ComesIn past e.node) hands.handed.2 run.0.comes in
      let goes = (messages_are_heeded cfg past valid run.1).messages m comes.1 in
      omega (arith, ltb-true o.shard cfg.shards goes.from_there, valid.most_shards)

  handed_small : (past : Past) → IsPastOf cfg past → WasHanded past → o.shard < 6
  handed_small [] run since = absurd since
  handed_small (e ∷ past) run since = elim (since.1) [
    | inl hands ↦ hands_small e past run hands
    | inr before ↦ handed_small past run.1 before
  ]

  -- ---- an entry more

  module _ (e : HistoryEntry) (past : Past) (run : IsPastOf cfg (e ∷ past)) (before : IsHandedHeld cfg past number o) where
    abbrev n : Node (ConsumerState AnyApp)
    n = after consumers cfg node past

    abbrev later : Node (ConsumerState AnyApp)
    later = after consumers cfg node (e ∷ past)

    -- another node's
    others_held : same_node e.node node ≡ false → IsHandedHeld cfg (e ∷ past) number o
    others_held other =
        let same : later ≡ n = other_state consumers cfg node e past other in
        let agree : agreed_at cfg node (e ∷ past) ≡ agreed_at cfg node past = ap (λ l. agreed_after cfg (known_by l)) (other_stored cfg node e past other) in
        record {
          kept = λ since.
              subst (λ (s : Node (ConsumerState AnyApp)). IsSettled (agreed_at cfg node (e ∷ past)) s.own o) (sym same)
              (subst (λ (a : Agreement). IsSettled a n.own o) (sym agree) (before.kept (elim (since.1) [
                | inl hands ↦ absurd (false≢true (sym other ∙ (ap (λ x. same_node x node) hands.here ∙ node_itself node)))
                | inr earlier ↦ earlier
              ])));
          handed = λ held.
              since_before node e past (Hands cfg number o) (others_restart node e other)
              (before.handed (subst (λ (s : Node (ConsumerState AnyApp)). IsSome (held_of s.own.lanes o)) same held));
        }

    module _ (own : same_node e.node node ≡ true) where
      abbrev next : Node (ConsumerState AnyApp)
      next = (consumer_step any_meaning n e.event).state

      left : later ≡ next
      left = own_state consumers cfg node e past valid run own

      is_here : e.node ≡ node
      is_here = same_node_is e.node node own

      -- a restart
      restart_held : is_restart e.event ≡ true → IsHandedHeld cfg (e ∷ past) number o
      restart_held is = record {
        kept = λ since. absurd (false≢true (sym since.0 ∙ (own_restart node e own ∙ is)));
        handed = λ held.
            absurd (none_held (held_of later.own.lanes o)
            (ap (λ (s : Node (ConsumerState AnyApp)). held_of s.own.lanes o) left ∙ restart_empty n e.event o is) held);
      }

      module _ (up : is_restart e.event ≡ false) where
        other : e.event ≡ events.Restart → ⊥
        other same = false≢true (sym up ∙ ap is_restart same)

        not_restart : is_restart_of node e ≡ false
        not_restart = own_restart node e own ∙ up

        -- what was handed before
        earlier_kept : WasHanded past → IsSettled (agreed_by next.base) next.own o
        earlier_kept since =
            step_settled any_meaning n e.event o other run.0.valid (handed_small past run.1 since) (sound cfg valid number here past run.1)
            (subst (λ (a : Agreement). IsSettled a n.own o) (sym (agreed_is cfg valid number here past run.1)) (before.kept since))

        -- what is handed now
        now_kept : Hands cfg number o past e → IsSettled (agreed_by next.base) next.own o
        now_kept hands =
            let rec : Record = hands.handed.1 in
            let m : Message = handing hands.handed.0 rec in
            let same : e.event ≡ events.Deliver m = hands.handed.2 in
            let small = hands_small e past run hands in
            let names = named cfg valid number here past run.1 in
            let heeded : is_heeded cfg e.node m ≡ true = subst (IsHeeded cfg e.node) same (messages_are_heeded cfg (e ∷ past) valid run).entries.0 in
            let heeded_here : is_heeded n.base.cfg n.base.me m ≡ true =
            subst (λ (c : Config). is_heeded c n.base.me m ≡ true) (sym names.0)
            (subst (λ (x : NodeId). is_heeded cfg x m ≡ true) (is_here ∙ sym names.1) heeded) in
            let fits : IsValidMessage m = subst IsValidEvent same run.0.valid in
            subst (λ (event : Event). IsSettled (agreed_by (consumer_step any_meaning n event).state.base) (consumer_step any_meaning n event).state.own o)
            (sym same)
            (step_settles any_meaning n m o rec heeded_here refl refl fits.what.1 (sound cfg valid number here past run.1) small
            (omega (arith, hands.in_reach, floor_is cfg valid number here past run.1 o.shard small)))

        -- what comes to be held is handed
        delivered : IsDelivered any_meaning n e.event o other → Hands cfg number o past e
        delivered is =
            let m : Message = is.comes.message in
            let names = named cfg valid number here past run.1 in
            let goes_there : Bool = goes_between m.what m.from m.to in
            let parts = and_parts (same_node m.to n.base.me && is_node_of n.base.cfg m.from) (not (same_node m.from m.to) && goes_there) is.comes.heeded in
            let goes = (and_parts (not (same_node m.from m.to)) goes_there parts.1).1 in
            let between : goes_between (whats.Deliver o.local is.rec) m.from m.to ≡ true =
            subst (λ w. goes_between w m.from m.to ≡ true) is.comes.says goes in
            let replica = replica_named m.from (and_parts (is_replica m.from) (is_consumer m.to) between).0 in
            let shard : number_of m.from ≡ o.shard = ap number_of is.comes.by ∙ is.shard in
            let from : m.from ≡ nodes.Shard o.shard replica.0 = replica.1 ∙ ap (λ (k : ℕ). nodes.Shard k replica.0) shard in
            let to = and_parts (same_node m.to n.base.me) (is_node_of n.base.cfg m.from) parts.0 in
            let there : is_node_of cfg (nodes.Shard o.shard replica.0) ≡ true =
            subst (λ (x : NodeId). is_node_of cfg x ≡ true) from (subst (λ (c : Config). is_node_of c m.from ≡ true) names.0 to.1) in
            let small : o.shard < 6 = omega (arith, ltb-true o.shard cfg.shards there, valid.most_shards) in
            record {
              here = is_here;
              handed = (
                replica.0,
                is.rec,
                is.comes.same
                    ∙ ap (λ (x : Message). events.Deliver x)
                    (message_is m (nodes.Shard o.shard replica.0) node (whats.Deliver o.local is.rec) from
                    (same_node_is m.to n.base.me to.0 ∙ names.1) is.comes.says),
              );
              in_reach = omega (arith, is.near, floor_is cfg valid number here past run.1 o.shard small);
            }

        step_held : IsHandedHeld cfg (e ∷ past) number o
        step_held = record {
          kept = λ since.
              subst (λ (a : Agreement). IsSettled a later.own o) (agreed_is cfg valid number here (e ∷ past) run)
              (subst (λ (s : Node (ConsumerState AnyApp)). IsSettled (agreed_by s.base) s.own o) (sym left) (elim (since.1) [
                | inl hands ↦ now_kept hands
                | inr earlier ↦ earlier_kept earlier
              ]));
          handed = λ held.
              elim (step_holds any_meaning n e.event o other (subst (λ (s : Node (ConsumerState AnyApp)). IsSome (held_of s.own.lanes o)) left held)) [
                | inl was ↦ since_before node e past (Hands cfg number o) not_restart (before.handed was)
                | inr comes ↦ since_now node e past (Hands cfg number o) not_restart (delivered comes)
              ];
        }

      own_held : IsHandedHeld cfg (e ∷ past) number o
      own_held = elim (cases_Bool (is_restart e.event)) [
        | inl is ↦ restart_held is
        | inr up ↦ step_held up
      ]

    next_held : IsHandedHeld cfg (e ∷ past) number o
    next_held = on_own (same_node e.node node) own_held others_held

  pub all_held : (past : Past) → IsPastOf cfg past → IsHandedHeld cfg past number o
  all_held =
      every_past cfg (λ past. IsHandedHeld cfg past number o)
      (record { kept = λ since. absurd since; handed = λ held. absurd (none_held _ (nothing_fresh o) held) })
      next_held

pub handed_is_held : OfEveryRun HandedIsHeld
handed_is_held cfg past valid run number here o = all_held cfg valid number here o past run

-- An actor that takes a frame: where its messages came from stays true, and the new one came so too.
use Rattle.std.proofs.Common.{◌≡◌, ◌≢◌, ◌⊎◌, inl, inr, ℕ, zero, suc, ◌<◌, List, [], ◌∷◌, ◌++◌, length, get_or, set, Bool, true, false, Option, None, Some}
use Rattle.std.proofs.Common.{refl, sym, ap, ◌∙◌, subst, arith, append-nil}
use Rattle.std.specs.List.{Contains}
use Rattle.std.specs.Vec.{with_items}
use Rattle.std.proofs.lemmas.List.{get_or-set_same, get_or-set_other, length-set, get_or_default, with_items_is}
use Rattle.std.proofs.lemmas.List.Elements.{Contains-append_left, Contains-append_right}
use Rattle.node_links.specs.declared.frame.Frame.{Frame}
use Rattle.node_links.specs.Links.{LinkName, Receiving, Sending}
use Rattle.spec_base.specs.declared.disk.Disk.{Ghosts as DiskRules}
use Rattle.msg_wire.specs.declared.config.Config.{Config}
use Rattle.net_model.specs.declared.journal.Stamped.{Stamped}
use Rattle.net_model.specs.declared.model.NodeModel.{Ghosts as NodeRules}
use Rattle.net_model.specs.Names.{NodeId, Message}
use Rattle.net_model.specs.Names.events
use Rattle.node_order.specs.Places.{rank_of}
use Rattle.node_actor.specs.declared.node_core.NodeCore.{NodeCore}
use Rattle.node_actor.specs.declared.actor.NodeActor.{NodeActor}
use Rattle.node_actor.specs.Actors.{CanGoOn, KeepsItems, WentOn, Moved}
use Rattle.node_actor.specs.inside.Reacting.{IsPulled, Reacted, is_input}
use Rattle.node_actor.specs.Cores.{steps_of, past_at, IsReady, IsReadFrom, Turned, Received, KeepsDisk, IsFaulty}
use Rattle.node_actor.specs.Chunks.{chunks_of}
use Rattle.node_actor.specs.Steps.{table_at}
use Rattle.node_actor.proofs.Keeping.{keeps_tells}
use Rattle.node_actor.specs.declared.stopped.Stopped.{Stopped}
use Rattle.node_actor.specs.declared.stopped.Stopped.TheVariants as stops
use Rattle.node_actor.specs.declared.taken.Taken.{Taken}
use Rattle.node_actor.specs.declared.taken.Taken.TheVariants as takes
use Rattle.node_actor.specs.Turns.{AreStepsOf, IsTurn, TookSteps}
use Rattle.link_faults.specs.Faults.{Holding}
use Rattle.node_actor.specs.Lanes.{links_of, lanes}
use Rattle.node_actor.specs.Ins.{links_to, CameBy, AreTaken}

-- ---- a frame more was pulled

links_set : (ins : List Receiving) (k : ℕ) (d i : Receiving) → k < length ins → i.link ≡ (get_or ins k d).link → links_to (set ins k i) ≡ links_to ins
links_set [] k d i below same = absurd (omega arith)
links_set (x ∷ ins) zero d i below same = ap (λ (n : LinkName). n ∷ links_to ins) same
links_set (x ∷ ins) (suc k) d i below same = ap (λ l. x.link ∷ l) (links_set ins k d i (omega arith) same)

pub pulled_links : (ins ins' : List Receiving) (k : ℕ) (f : Frame) → IsPulled ins ins' k f → links_to ins' ≡ links_to ins
pulled_links ins ins' k f p =
    ap links_to p.set ∙ links_set ins k p.old p.new p.within (p.link ∙ ap (λ (r : Receiving). r.link) (sym p.there))

same_or_not : (a b : ℕ) → (a ≡ b) ⊎ (a ≢ b)
same_or_not a b = grind arith

came_on : (cfg : Config) (ins : List Receiving) (k : ℕ) (f : Frame) (m : Message) (stamp : ℕ) (old new : Receiving) → k < length ins → get_or ins k old ≡ old
    → new.received ≡ old.received ++ f ∷ [] → (rank_of cfg m.from ≡ k) ⊎ (rank_of cfg m.from ≢ k) → CameBy cfg ins m stamp → CameBy cfg (set ins k new) m stamp
came_on cfg ins k f m stamp old new within there received (inl here) came =
    let is : came.link ≡ old =
    sym came.is_there ∙ ap (λ n. get_or ins n came.link) here ∙ get_or_default ins k came.link old within ∙ there in
    let inside : Contains new.received came.frame =
    subst (λ l. Contains l came.frame) (sym received)
    (Contains-append_left old.received (f ∷ []) came.frame (subst (λ (r : Receiving). Contains r.received came.frame) is came.received)) in
    record {
      link = new;
      frame = came.frame;
      within = omega (arith, came.within, length-set ins k new);
      is_there = ap (λ n. get_or (set ins k new) n new) here ∙ get_or-set_same ins k new new within;
      received = inside;
      below = came.below;
      spelled = came.spelled;
    }
came_on cfg ins k f m stamp old new within there received (inr other) came = record {
  link = came.link;
  frame = came.frame;
  within = omega (arith, came.within, length-set ins k new);
  is_there = get_or-set_other ins k (rank_of cfg m.from) new came.link other ∙ came.is_there;
  received = came.received;
  below = came.below;
  spelled = came.spelled;
}

pub still_came : (cfg : Config) (ins ins' : List Receiving) (k : ℕ) (f : Frame) (m : Message) (stamp : ℕ) → IsPulled ins ins' k f → CameBy cfg ins m stamp
    → CameBy cfg ins' m stamp
still_came cfg ins ins' k f m stamp p came =
    subst (λ l. CameBy cfg l m stamp) (sym p.set) (came_on cfg ins k f m stamp p.old p.new p.within p.there p.received (same_or_not
    (rank_of cfg m.from) k) came)

pub still_taken : (cfg : Config) (ins ins' : List Receiving) (k : ℕ) (f : Frame) (steps : List Stamped) → IsPulled ins ins' k f → AreTaken cfg ins steps
    → AreTaken cfg ins' steps
still_taken cfg ins ins' k f [] p all = tt
still_taken cfg ins ins' k f (x ∷ steps) p all = (λ m is. still_came cfg ins ins' k f m x.stamp p (all.0 m is), still_taken cfg ins ins' k f steps p all.1)

pub now_came : (cfg : Config) (name : NodeId) (ins ins' : List Receiving) (k : ℕ) (f : Frame) (m : Message) (stamp : ℕ) → IsPulled ins ins' k f
    → IsReadFrom cfg name k f.bytes m → f.stamp < stamp
    → CameBy cfg ins' m stamp
now_came cfg name ins ins' k f m stamp p read below =
    let rank : rank_of cfg m.from ≡ k = read.between.place in
    subst (λ l. CameBy cfg l m stamp) (sym p.set) (record {
      link = p.new;
      frame = f;
      within = omega (arith, p.within, rank, length-set ins k p.new);
      is_there = ap (λ n. get_or (set ins k p.new) n p.new) rank ∙ get_or-set_same ins k p.new p.new p.within;
      received = subst (λ l. Contains l f) (sym p.received) (Contains-append_right p.old.received (f ∷ []) f (0, omega arith, refl));
      below = below;
      spelled = read.spelled;
    })

-- ---- steps

taken_push : (cfg : Config) (ins : List Receiving) (steps : List Stamped) (x : Stamped) → AreTaken cfg ins steps
    → ((m : Message) → x.entry.event ≡ events.Deliver m → CameBy cfg ins m x.stamp) → AreTaken cfg ins (steps ++ x ∷ [])
taken_push cfg ins [] x all one = (one, tt)
taken_push cfg ins (y ∷ steps) x all one = (all.0, taken_push cfg ins steps x all.1 one)

-- a step of a message that came
pub taken_more : (cfg : Config) (ins : List Receiving) (steps : List Stamped) (x : Stamped) (m : Message) → x.entry.event ≡ events.Deliver m
    → CameBy cfg ins m x.stamp
    → AreTaken cfg ins steps → AreTaken cfg ins (steps ++ x ∷ [])
taken_more cfg ins steps x m is came all =
    taken_push cfg ins steps x all (λ n also. let same : m ≡ n = cc in subst (λ w. CameBy cfg ins w x.stamp) same came)

-- ---- no step

some_none : (why : Stopped) → Some why ≡ None → ⊥
some_none why e = absurd cc

pub none_turned : {N D : Type 0} (rules : NodeRules N) (disk : DiskRules D) (core : NodeCore N D) (outs : List Sending) → IsReady rules core
    → Turned rules disk [] core core outs outs
none_turned rules disk core outs ready = record {
  ready = ready;
  cfg = refl;
  name = refl;
  plan = refl;
  steps = sym (append-nil core.journal.steps);
  links = refl;
  sends = refl;
  valid = tt;
  in_step = λ at. at;
}

pub none_kept : {N D : Type 0} (disk : DiskRules D) (core : NodeCore N D) → KeepsDisk disk core core
none_kept disk core = record { cfg = refl; name = refl; no_fall = omega arith; tells = λ chunks kept. keeps_tells disk core.store chunks kept }

-- frames that move into rings are queued as before
pub push_turned : {N D : Type 0} (rules : NodeRules N) (disk : DiskRules D) (more : List Stamped) (before after : NodeCore N D)
    (outs outs' pushed : List Sending)
    → links_of pushed ≡ links_of outs' → ((faults : List Holding) → lanes pushed faults ≡ lanes outs' faults)
    → Turned rules disk more before after outs outs' → Turned rules disk more before after outs pushed
push_turned rules disk more before after outs outs' pushed links queued turned = record {
  ready = turned.ready;
  cfg = turned.cfg;
  name = turned.name;
  plan = turned.plan;
  steps = turned.steps;
  links = links ∙ turned.links;
  sends = queued after.faults.items ∙ turned.sends;
  valid = turned.valid;
  in_step = turned.in_step;
}

pub items_kept : {N D : Type 0} (rules : NodeRules N) (disk : DiskRules D) (before after : NodeCore N D) → KeepsDisk disk before after
    → KeepsItems rules disk before after
items_kept rules disk before after keeps = record {
  cfg = keeps.cfg;
  name = keeps.name;
  no_fall = keeps.no_fall;
  tells = λ at. keeps.tells (chunks_of (table_at rules before.cfg before.name) before.name (past_at before)) at.stored;
}

-- ---- an actor

module _ {N D : Type 0} (rules : NodeRules N) (disk : DiskRules D) where
  pub push_received : (from : ℕ) (frame : Frame) (before after : NodeCore N D) (outs outs' pushed : List Sending) → links_of pushed ≡ links_of outs'
      → ((faults : List Holding) → lanes pushed faults ≡ lanes outs' faults) → Received true rules disk from frame before after outs outs'
      → Received true rules disk from frame before after outs pushed
  push_received from frame before after outs outs' pushed links queued received = (
    received.0,
    received.1,
    record {
      step = received.2.step;
      event_is = received.2.event_is;
      above_is = received.2.above_is;
      turned = push_turned rules disk (received.2.step ∷ []) before after outs outs' pushed links queued received.2.turned;
    },
  )

  none_went : (actor moved : NodeActor N D) → moved.core ≡ actor.core → moved.outs.items ≡ actor.outs.items → moved.ins.items ≡ actor.ins.items
      → IsReady rules actor.core
      → WentOn rules disk actor moved
  none_went actor moved core outs ins ready = record {
    more = [];
    turned = subst (λ (c : NodeCore N D). Turned rules disk [] actor.core c actor.outs.items moved.outs.items) (sym core)
        (subst (Turned rules disk [] actor.core actor.core actor.outs.items) (sym outs) (none_turned rules disk actor.core actor.outs.items ready));
    taken = λ all.
        subst (λ (c : NodeCore N D). AreTaken c.cfg moved.ins.items (steps_of c)) (sym core)
        (subst (λ l. AreTaken actor.core.cfg l (steps_of actor.core)) (sym ins) all);
  }

  pub none_moved : (actor moved : NodeActor N D) → actor.stopped ≡ None → moved.stopped ≡ None → IsReady rules actor.core → moved.core ≡ actor.core
      → moved.outs.items ≡ actor.outs.items → moved.ins.items ≡ actor.ins.items → Moved rules disk actor moved
  none_moved actor moved calm calm' ready core outs ins = record {
    goes = λ is. none_went actor moved core outs ins ready;
    was = λ is. calm;
    rests = λ why is. absurd (some_none why (sym is ∙ calm));
    outs = ap links_of outs;
    ins = ap links_to ins;
    keeps = items_kept rules disk actor.core moved.core (subst (λ (c : NodeCore N D). KeepsDisk disk actor.core c) (sym core) (none_kept disk actor.core));
    faulty = λ was fails. absurd (some_none stops.Disk (sym fails ∙ calm'));
  }

  took_on : (actor mid after : NodeActor N D) (from : ℕ) (frame : Frame) → IsReady rules actor.core → IsPulled actor.ins.items mid.ins.items from frame
      → mid.ins.items ≡ after.ins.items → (taken : Bool)
      → Received taken rules disk from frame actor.core after.core actor.outs.items after.outs.items → WentOn rules disk actor after
  took_on actor mid after from frame ready pulled ins true received =
      let took = received.2 in
      let x = took.step in
      let cfg = actor.core.cfg in
      record {
        more = x ∷ [];
        turned = took.turned;
        taken = λ all.
            subst (λ c. AreTaken c after.ins.items (steps_of after.core)) (sym took.turned.cfg)
            (subst (AreTaken cfg after.ins.items) (sym took.turned.steps)
            (subst (λ l. AreTaken cfg l (steps_of actor.core ++ x ∷ [])) ins
            (taken_more cfg mid.ins.items (steps_of actor.core) x received.0 took.event_is
            (now_came cfg actor.core.name actor.ins.items mid.ins.items from frame received.0 x.stamp pulled received.1 took.above_is)
            (still_taken cfg actor.ins.items mid.ins.items from frame (steps_of actor.core) pulled all))));
      }
  took_on actor mid after from frame ready pulled ins false received = record {
    more = [];
    turned = subst (λ (c : NodeCore N D). Turned rules disk [] actor.core c actor.outs.items after.outs.items) (sym received.0)
        (subst (Turned rules disk [] actor.core actor.core actor.outs.items) (sym received.1) (none_turned rules disk actor.core actor.outs.items ready));
    taken = λ all.
        subst (λ (c : NodeCore N D). AreTaken c.cfg after.ins.items (steps_of c)) (sym received.0)
        (subst (λ l. AreTaken actor.core.cfg l (steps_of actor.core)) ins
        (still_taken actor.core.cfg actor.ins.items mid.ins.items from frame (steps_of actor.core) pulled all));
  }

  pub frame_moved : (taken : Taken) (actor mid after : NodeActor N D) (from : ℕ) (frame : Frame) → actor.stopped ≡ None → IsReady rules actor.core
      → mid.core ≡ actor.core → mid.outs.items ≡ actor.outs.items → IsPulled actor.ins.items mid.ins.items from frame
      → Reacted rules disk from frame taken mid after → Moved rules disk actor after
  frame_moved taken actor mid after from frame calm ready core outs pulled reacted = record {
    goes = λ is.
        let stepped = is_input taken in
        let received = subst (λ (c : NodeCore N D). Received stepped rules disk from frame c after.core mid.outs.items after.outs.items) core
        (reacted.goes is) in
        took_on actor mid after from frame ready pulled (sym reacted.ins) stepped
        (subst (λ o. Received stepped rules disk from frame actor.core after.core o after.outs.items) outs received);
    was = λ is. calm;
    rests = λ why is. absurd (some_none why (sym is ∙ calm));
    outs = reacted.outs ∙ ap links_of outs;
    ins = ap links_to reacted.ins ∙ pulled_links actor.ins.items mid.ins.items from frame pulled;
    keeps = items_kept rules disk actor.core after.core (subst (λ (c : NodeCore N D). KeepsDisk disk c after.core) core reacted.keeps);
    faulty = λ was fails. subst (λ (c : NodeCore N D). IsFaulty disk c after.core) core (reacted.faulty fails);
  }

  -- ---- the links to it were lent, and a frame was pulled of one or of none

  pub none_pulled : (actor : NodeActor N D) (lent ins : List Receiving) → actor.stopped ≡ None → CanGoOn rules actor → lent ≡ actor.ins.items
      → ins ≡ lent → Moved rules disk actor (record actor { ins = with_items actor.ins ins })
  none_pulled actor lent ins calm going lent_is none =
      let same = none ∙ lent_is in
      none_moved actor _ calm calm (going calm) refl refl (with_items_is actor.ins ins (ap length same ∙ sym actor.ins.ok.0) ∙ same)

  pub pulled_moved : (taken : Taken) (actor after : NodeActor N D) (next : ℕ) (lent ins : List Receiving) (from : ℕ) (frame : Frame)
      → actor.stopped ≡ None → CanGoOn rules actor → lent ≡ actor.ins.items → IsPulled lent ins from frame
      → Reacted rules disk from frame taken (record actor { ins = with_items actor.ins ins; next = next }) after → Moved rules disk actor after
  pulled_moved taken actor after next lent ins from frame calm going lent_is pulled reacted =
      let len = ap length pulled.set ∙ length-set lent from pulled.new ∙ ap length lent_is ∙ sym actor.ins.ok.0 in
      frame_moved taken actor _ after from frame calm (going calm) refl refl
      (subst (λ l. IsPulled actor.ins.items l from frame) (sym (with_items_is actor.ins ins len)) (subst (λ l. IsPulled l ins from frame) lent_is pulled))
      reacted

  -- ---- the steps of a turn

  no_more : (before after : NodeCore N D) → after ≡ before → (more : List Stamped) × (steps_of after ≡ steps_of before ++ more) × (more ≡ [])
  no_more before after same = ([], ap (λ (c : NodeCore N D). steps_of c) same ∙ sym (append-nil (steps_of before)), refl)

  received_steps : (taken : Taken) (from : ℕ) (frame : Frame) (before after : NodeCore N D) (outs outs' : List Sending)
      → Received (is_input taken) rules disk from frame before after outs outs'
      → (more : List Stamped) × (steps_of after ≡ steps_of before ++ more) × AreStepsOf taken more
  received_steps takes.Input from frame before after outs outs' received =
      let took = received.2 in (took.step ∷ [], took.turned.steps, (received.0, (took.step, refl, took.event_is)))
  received_steps takes.NoInput from frame before after outs outs' received = no_more before after received.0
  received_steps takes.Nothing from frame before after outs outs' received = no_more before after received.0

  pub frame_steps : (taken : Taken) (from : ℕ) (frame : Frame) (actor mid after : NodeActor N D) → mid.core ≡ actor.core
      → Reacted rules disk from frame taken mid after → TookSteps (AreStepsOf taken) actor after
  frame_steps taken from frame actor mid after core reacted = λ calm.
      let steps = received_steps taken from frame mid.core after.core mid.outs.items after.outs.items (reacted.goes calm) in
      (steps.0, steps.1 ∙ ap (λ (c : NodeCore N D). steps_of c ++ steps.0) core, steps.2)

-- the steps that come of a frame are those of a turn that is no tick
pub turn_of_frame : (taken : Taken) (steps : List Stamped) → AreStepsOf taken steps → IsTurn false steps
turn_of_frame takes.Input steps are = inr (are.0, are.1)
turn_of_frame takes.NoInput steps are = inl are
turn_of_frame takes.Nothing steps are = inl are

pub is_none_some : (stopped : Option Stopped) (why : Stopped) → stopped ≡ None → stopped ≡ Some why → ⊥
is_none_some stopped why none some = some_none why (sym some ∙ none)

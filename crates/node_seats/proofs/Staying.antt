-- An actor stays at its seat: as it moves, as its faults end, and as its links are settled; and is at one as a run begins.
use Rattle.std.proofs.Common.{◌≡◌, ◌≤◌, ℕ, zero, suc, ◌<◌, Bool, true, false, cond, List, [], ◌∷◌, ◌++◌, length, get_or, map, Option, None, Some, refl, sym}
use Rattle.std.proofs.Common.{ap, ◌∙◌, subst, arith}
use Rattle.std.specs.List.{AllByRecursion, Contains}
use Rattle.std.proofs.lemmas.List.{length-map, get_or-map, get_or_default}
use Rattle.gate_vault.specs.Put.{FailedTwice}
use Rattle.link_faults.specs.declared.plan.FaultPlan.{FaultPlan}
use Rattle.link_faults.specs.Faults.{Holding, held_frames}
use Rattle.link_rows.specs.Rows.{IsUnsent}
use Rattle.node_links.specs.Links.{Sending, Receiving, queued}
use Rattle.spec_base.specs.declared.disk.Disk.{Ghosts as DiskRules}
use Rattle.msg_wire.specs.declared.config.Config.{Config}
use Rattle.msg_wire.specs.Nodes.{is_node_of}
use Rattle.net_model.specs.declared.journal.Stamped.{Stamped}
use Rattle.net_model.specs.declared.model.NodeModel.{Ghosts as NodeRules}
use Rattle.net_model.specs.Names.{Message}
use Rattle.node_order.specs.Places.{rank_of}
use Rattle.node_actor.specs.declared.actor.NodeActor.{NodeActor}
use Rattle.node_actor.specs.declared.node_core.NodeCore.{NodeCore}
use Rattle.node_actor.specs.declared.stopped.Stopped.{Stopped}
use Rattle.node_actor.specs.declared.stopped.Stopped.TheVariants as stops
use Rattle.node_actor.specs.Actors.{EndedFaults, Moved, WentOn}
use Rattle.node_actor.specs.Chunks.{chunks_of}
use Rattle.node_actor.specs.Cores.{past_at, steps_of, FaultsEnded, IsInStep}
use Rattle.node_actor.specs.Ins.{links_to, AreTaken, CameBy}
use Rattle.node_actor.specs.Lanes.{Lane, at_place, frame_of, lanes, links_of, passed, released, send_message, send_messages, send_steps}
use Rattle.node_actor.specs.Steps.{table_at}
use Rattle.node_actor.specs.Stores.{disk_in, TellsItems}
use Rattle.node_actor.proofs.Going.{is_none_some}
use Rattle.node_actor.proofs.Keeping.{keeps_tells}
use Rattle.node_actor.proofs.Turning.{failed_since}
use Rattle.frame_sources.specs.Frames.{CarrySteps, IsOfStep}
use Rattle.frame_sources.proofs.Carrying.{links_carry, released_each}
use Rattle.node_seats.specs.Seats.{Seat, IsInOrder, IsNew, IsSeated, StaysSeated, WaitsElsewhere, received_of, seat_of}

-- ---- as many lanes as links

at_place_length : (place : ℕ) (change : Lane → Lane) (ls : List Lane) → length (at_place place change ls) ≡ length ls
at_place_length place change [] = refl
at_place_length zero change (l ∷ ls) = refl
at_place_length (suc place) change (l ∷ ls) = ap suc (at_place_length place change ls)

if_length : (here : Bool) (sent ls : List Lane) → length sent ≡ length ls → length (cond here sent ls) ≡ length ls
if_length true sent ls same = same
if_length false sent ls same = refl

messages_length : (cfg : Config) (plan : Option FaultPlan) (stamp : ℕ) (ms : List Message) (ls : List Lane)
    → length (send_messages cfg plan stamp ms ls) ≡ length ls
messages_length cfg plan stamp [] ls = refl
messages_length cfg plan stamp (m ∷ ms) ls =
    messages_length cfg plan stamp ms (send_message cfg plan stamp m ls)
    ∙ if_length (is_node_of cfg m.to) (at_place (rank_of cfg m.to) (passed plan (frame_of stamp m)) ls) ls
    (at_place_length (rank_of cfg m.to) (passed plan (frame_of stamp m)) ls)

steps_length : (cfg : Config) (plan : Option FaultPlan) (steps : List Stamped) (ls : List Lane) → length (send_steps cfg plan steps ls) ≡ length ls
steps_length cfg plan [] ls = refl
steps_length cfg plan (x ∷ steps) ls =
    steps_length cfg plan steps (send_messages cfg plan x.stamp x.entry.sends ls) ∙ messages_length cfg plan x.stamp x.entry.sends ls

outs_length : (outs outs' : List Sending) → links_of outs' ≡ links_of outs → length outs' ≡ length outs
outs_length outs outs' same =
    sym (length-map outs' (λ (o : Sending). o.link)) ∙ ap length same ∙ length-map outs (λ (o : Sending). o.link)

-- ---- as frames wait elsewhere

lanes_by : (outs outs' : List Sending) (faults : List Holding) → map queued outs' ≡ map queued outs → lanes outs' faults ≡ lanes outs faults
lanes_by [] [] faults same = refl
lanes_by [] (y ∷ outs') faults same = absurd cc
lanes_by (x ∷ outs) [] faults same = absurd cc
lanes_by (x ∷ outs) (y ∷ outs') [] same = refl
lanes_by (x ∷ outs) (y ∷ outs') (h ∷ faults) same =
    let first : queued y ≡ queued x = cc in
    let later : map queued outs' ≡ map queued outs = cc in
    ap (λ q. record { queued = q; faults = h } ∷ lanes outs' faults) first ∙ ap (λ l. record { queued = queued x; faults = h } ∷ l)
    (lanes_by outs outs' faults later)

came_by : (cfg : Config) (ins ins' : List Receiving) (m : Message) (stamp : ℕ) → map received_of ins' ≡ map received_of ins → CameBy cfg ins m stamp
    → CameBy cfg ins' m stamp
came_by cfg ins ins' m stamp same came =
    let k = rank_of cfg m.from in
    let long : length ins' ≡ length ins = sym (length-map ins' received_of) ∙ ap length same ∙ length-map ins received_of in
    let within : k < length ins' = omega (arith, came.within, long) in
    let link = get_or ins' k came.link in
    let is : link.received ≡ came.link.received =
    sym (get_or-map received_of ins' k came.link [] within) ∙ ap (λ l. get_or l k []) same ∙ get_or-map received_of ins k came.link [] came.within
    ∙ ap received_of came.is_there in
    record {
      link = link;
      frame = came.frame;
      within = within;
      is_there = get_or_default ins' k link came.link within;
      received = subst (λ l. Contains l came.frame) (sym is) came.received;
      below = came.below;
      spelled = came.spelled;
    }

taken_by : (cfg : Config) (ins ins' : List Receiving) (steps : List Stamped) → map received_of ins' ≡ map received_of ins → AreTaken cfg ins
    steps → AreTaken cfg ins' steps
taken_by cfg ins ins' [] same all = tt
taken_by cfg ins ins' (x ∷ steps) same all = (λ m is. came_by cfg ins ins' m x.stamp same (all.0 m is), taken_by cfg ins ins' steps same all.1)

-- ---- as faults end

all_released : (steps : List Stamped) (ls : List Lane) → CarrySteps steps ls → CarrySteps steps (map released ls)
all_released steps [] carry = tt
all_released steps (l ∷ ls) carry = (released_each (IsOfStep steps) l carry.0, all_released steps ls carry.1)

-- ---- as a run begins

nothing_carried : (steps : List Stamped) (outs : List Sending) (faults : List Holding) → AllByRecursion IsUnsent outs
    → AllByRecursion (λ (h : Holding). h.held ≡ None) faults → CarrySteps steps (lanes outs faults)
nothing_carried steps [] faults unsent unheld = tt
nothing_carried steps (o ∷ outs) [] unsent unheld = tt
nothing_carried steps (o ∷ outs) (h ∷ faults) unsent unheld =
    let none : queued o ≡ [] = ap (λ l. l ++ o.waiting) unsent.0.0 ∙ unsent.0.1 in (
      (
        subst (AllByRecursion (IsOfStep steps)) (sym none) tt,
        subst (λ held. AllByRecursion (IsOfStep steps) (held_frames held)) (sym unheld.0) tt,
      ),
      nothing_carried steps outs faults unsent.1 unheld.1,
    )

lane_each : (outs : List Sending) (faults : List Holding) → length faults ≡ length outs → length (lanes outs faults) ≡ length outs
lane_each [] faults same = refl
lane_each (o ∷ outs) [] same = absurd (omega (arith, same))
lane_each (o ∷ outs) (h ∷ faults) same = ap suc (lane_each outs faults (omega (arith, same)))

module _ {N D : Type 0} (rules : NodeRules N) (disk : DiskRules D) where
  tells : (core : NodeCore N D) → IsInStep rules disk core → TellsItems (disk.seen (disk_in core.store))
  tells core at = keeps_tells disk core.store (chunks_of (table_at rules core.cfg core.name) core.name (past_at core)) at.stored

  pub new_seated : (count : ℕ) (actor : NodeActor N D) → IsNew rules disk actor → count ≤ disk.faults (disk_in actor.core.store)
      → IsSeated rules disk (seat_of count actor) actor
  new_seated count actor new below = record {
    cfg = refl;
    name = refl;
    outs = refl;
    ins = refl;
    going = λ calm. record {
      ready = new.ready;
      in_step = new.in_step;
      taken = subst (AreTaken actor.core.cfg actor.ins.items) (sym new.none) tt;
      carry = nothing_carried (steps_of actor.core) actor.outs.items actor.core.faults.items new.unsent new.unheld;
      each_lane = lane_each actor.outs.items actor.core.faults.items new.each_faults;
    };
    tells = tells actor.core new.in_step;
    no_fall = below;
    faulty = λ is. absurd (is_none_some actor.stopped stops.Disk new.going is);
  }

  -- ---- steps

  moved_order : (before after : NodeActor N D) → WentOn rules disk before after → IsInOrder rules disk before → IsInOrder rules disk after
  moved_order before after went at =
      let t = went.turned in
      let ls = lanes before.outs.items before.core.faults.items in
      let carried = links_carry before.core.cfg before.core.plan (steps_of before.core) went.more ls t.valid at.carry in
      record {
        ready = t.ready;
        in_step = t.in_step at.in_step;
        taken = went.taken at.taken;
        carry = subst (λ steps. CarrySteps steps (lanes after.outs.items after.core.faults.items)) (sym t.steps)
            (subst (CarrySteps (steps_of before.core ++ went.more)) (sym t.sends) carried);
        each_lane = ap length t.sends ∙ steps_length before.core.cfg before.core.plan went.more ls ∙ at.each_lane
            ∙ sym (outs_length before.outs.items after.outs.items t.links);
      }

  moved_tells : (seat : Seat) (before after : NodeActor N D) (s : Option Stopped) → before.stopped ≡ s → Moved rules disk before after
      → IsSeated rules disk seat before → TellsItems (disk.seen (disk_in after.core.store))
  moved_tells seat before after None calm moved at = moved.keeps.tells (at.going calm).in_step
  moved_tells seat before after (Some why) stopped moved at =
      subst (λ (a : NodeActor N D). TellsItems (disk.seen (disk_in a.core.store))) (sym (moved.rests why stopped)) at.tells

  abbrev FailedSince : Seat → NodeActor N D → Type 0
  FailedSince seat actor = FailedTwice seat.count (disk.faults (disk_in actor.core.store)) (disk.in_a_row (disk_in actor.core.store))

  moved_faulty : (seat : Seat) (before after : NodeActor N D) (s : Option Stopped) → before.stopped ≡ s → Moved rules disk before after
      → IsSeated rules disk seat before → after.stopped ≡ Some stops.Disk → FailedSince seat after
  moved_faulty seat before after None calm moved at fails =
      failed_since seat.count (disk.faults (disk_in before.core.store)) (disk.faults (disk_in after.core.store)) (disk.in_a_row (disk_in after.core.store))
      at.no_fall (moved.faulty calm fails)
  moved_faulty seat before after (Some why) stopped moved at fails =
      let same = moved.rests why stopped in
      subst (FailedSince seat) (sym same) (at.faulty (ap (λ (a : NodeActor N D). a.stopped) (sym same) ∙ fails))

  pub moved_stays : (before after : NodeActor N D) → Moved rules disk before after → StaysSeated rules disk before after
  moved_stays before after moved = λ seat at.
      let below = at.no_fall in
      let rises = moved.keeps.no_fall in
      record {
        cfg = moved.keeps.cfg ∙ at.cfg;
        name = moved.keeps.name ∙ at.name;
        outs = moved.outs ∙ at.outs;
        ins = moved.ins ∙ at.ins;
        going = λ calm. moved_order before after (moved.goes calm) (at.going (moved.was calm));
        tells = moved_tells seat before after before.stopped refl moved at;
        no_fall = omega (arith, below, rises);
        faulty = moved_faulty seat before after before.stopped refl moved at;
      }

  -- ---- the end of faults

  ended_order : (before after : NodeActor N D) → after.ins ≡ before.ins → links_of after.outs.items ≡ links_of before.outs.items
      → FaultsEnded rules disk before.core after.core before.outs.items after.outs.items → IsInOrder rules disk before → IsInOrder rules disk after
  ended_order before after ins links ended at =
      let ls = lanes before.outs.items before.core.faults.items in
      let steps : steps_of after.core ≡ steps_of before.core = ap (λ j. j.steps) ended.journal in
      record {
        ready = ended.ready;
        in_step = ended.in_step at.in_step;
        taken = subst (λ cfg. AreTaken cfg after.ins.items (steps_of after.core)) (sym ended.cfg)
            (subst (λ l. AreTaken before.core.cfg l.items (steps_of after.core)) (sym ins)
            (subst (AreTaken before.core.cfg before.ins.items) (sym steps) at.taken));
        carry = subst (λ l. CarrySteps l (lanes after.outs.items after.core.faults.items)) (sym steps)
            (subst (CarrySteps (steps_of before.core)) (sym ended.sends) (all_released (steps_of before.core) ls at.carry));
        each_lane = ap length ended.sends ∙ length-map ls released ∙ at.each_lane ∙ sym (outs_length before.outs.items after.outs.items links);
      }

  ended_faulty : (seat : Seat) (before after : NodeActor N D) (s : Option Stopped) → before.stopped ≡ s → EndedFaults rules disk before after
      → IsSeated rules disk seat before → after.stopped ≡ Some stops.Disk → FailedSince seat after
  ended_faulty seat before after None calm ended at fails = let no : stops.Disk ≡ stops.Memory = ended.memory stops.Disk calm fails in absurd cc
  ended_faulty seat before after (Some why) stopped ended at fails =
      let same = ended.rests why stopped in
      subst (FailedSince seat) (sym same) (at.faulty (ap (λ (a : NodeActor N D). a.stopped) (sym same) ∙ fails))

  pub ended_stays : (before after : NodeActor N D) → EndedFaults rules disk before after → StaysSeated rules disk before after
  ended_stays before after ended = λ seat at. record {
    cfg = ended.cfg ∙ at.cfg;
    name = ended.name ∙ at.name;
    outs = ended.outs ∙ at.outs;
    ins = ap (λ l. links_to l.items) ended.ins ∙ at.ins;
    going = λ calm. ended_order before after ended.ins ended.outs (ended.goes calm) (at.going (ended.was calm));
    tells = subst (λ store. TellsItems (disk.seen (disk_in store))) (sym ended.store) at.tells;
    no_fall = subst (λ store. seat.count ≤ disk.faults (disk_in store)) (sym ended.store) at.no_fall;
    faulty = ended_faulty seat before after before.stopped refl ended at;
  }

  -- ---- settled links

  waits_order : (before after : NodeActor N D) → WaitsElsewhere before after → IsInOrder rules disk before → IsInOrder rules disk after
  waits_order before after waits at =
      let ls : lanes after.outs.items before.core.faults.items ≡ lanes before.outs.items before.core.faults.items =
      lanes_by before.outs.items after.outs.items before.core.faults.items waits.queued in
      subst (λ (c : NodeCore N D). IsInOrder rules disk (record after { core = c })) (sym waits.core)
      (record {
        ready = at.ready;
        in_step = at.in_step;
        taken = taken_by before.core.cfg before.ins.items after.ins.items (steps_of before.core) waits.received at.taken;
        carry = subst (CarrySteps (steps_of before.core)) (sym ls) at.carry;
        each_lane = ap length ls ∙ at.each_lane ∙ sym (outs_length before.outs.items after.outs.items waits.outs);
      })

  pub waits_stays : (before after : NodeActor N D) → WaitsElsewhere before after → StaysSeated rules disk before after
  waits_stays before after waits = λ seat at. record {
    cfg = ap (λ (c : NodeCore N D). c.cfg) waits.core ∙ at.cfg;
    name = ap (λ (c : NodeCore N D). c.name) waits.core ∙ at.name;
    outs = waits.outs ∙ at.outs;
    ins = waits.ins ∙ at.ins;
    going = λ calm. waits_order before after waits (at.going (sym waits.stopped ∙ calm));
    tells = subst (λ (c : NodeCore N D). TellsItems (disk.seen (disk_in c.store))) (sym waits.core) at.tells;
    no_fall = subst (λ (c : NodeCore N D). seat.count ≤ disk.faults (disk_in c.store)) (sym waits.core) at.no_fall;
    faulty = λ fails. subst (λ (c : NodeCore N D). FailedTwice seat.count (disk.faults (disk_in c.store)) (disk.in_a_row (disk_in c.store))) (sym waits.core)
        (at.faulty (sym waits.stopped ∙ fails));
  }

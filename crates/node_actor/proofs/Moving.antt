-- Steps after steps: an actor that moved and moved again moved.
use Rattle.std.proofs.Common.{◌≡◌, ℕ, suc, ◌+◌, List, [], ◌∷◌, ◌++◌, Option, None, Some, refl, sym, ap, ◌∙◌, subst, append_assoc, append-nil, arith}
use Rattle.link_faults.specs.declared.plan.FaultPlan.{FaultPlan}
use Rattle.node_links.specs.Links.{Sending}
use Rattle.spec_base.specs.declared.disk.Disk.{Ghosts as DiskRules}
use Rattle.msg_wire.specs.declared.config.Config.{Config}
use Rattle.msg_wire.specs.Steps.{AreValidMessages}
use Rattle.net_model.specs.declared.journal.Stamped.{Stamped}
use Rattle.net_model.specs.declared.model.NodeModel.{Ghosts as NodeRules}
use Rattle.net_model.proofs.Merging.{all_append}
use Rattle.node_actor.specs.declared.actor.NodeActor.{NodeActor}
use Rattle.node_actor.specs.declared.node_core.NodeCore.{NodeCore}
use Rattle.node_actor.specs.declared.stopped.Stopped.{Stopped}
use Rattle.node_actor.specs.declared.stopped.Stopped.TheVariants as stops
use Rattle.node_actor.specs.Actors.{CanGoOn, WentOn, KeepsItems, Moved}
use Rattle.node_actor.specs.Cores.{steps_of, Turned, IsFaulty}
use Rattle.node_actor.specs.Turns.{AreTurns, IsTurn, TookSteps, is_tick_due}
use Rattle.node_actor.specs.Lanes.{Lane, lanes, send_messages, send_steps}
use Rattle.node_actor.specs.Stores.{disk_in}
use Rattle.node_actor.proofs.Going.{none_moved, is_none_some, items_kept, none_kept}
use Rattle.node_actor.proofs.Turning.{failed_since}

steps_append : (cfg : Config) (plan : Option FaultPlan) (a b : List Stamped) (ls : List Lane)
    → send_steps cfg plan (a ++ b) ls ≡ send_steps cfg plan b (send_steps cfg plan a ls)
steps_append cfg plan [] b ls = refl
steps_append cfg plan (x ∷ a) b ls = steps_append cfg plan a b (send_messages cfg plan x.stamp x.entry.sends ls)

module _ {N D : Type 0} (rules : NodeRules N) (disk : DiskRules D) where
  pub turned_then : (one two : List Stamped) (a b c : NodeCore N D) (x y z : List Sending) → Turned rules disk one a b x y → Turned rules disk two b c y z
      → Turned rules disk (one ++ two) a c x z
  turned_then one two a b c x y z first second =
      let lanes_are : lanes z c.faults.items ≡ send_steps a.cfg a.plan two (lanes y b.faults.items) =
      second.sends ∙ ap (λ cfg. send_steps cfg b.plan two (lanes y b.faults.items)) first.cfg
      ∙ ap (λ plan. send_steps a.cfg plan two (lanes y b.faults.items)) first.plan in
      record {
        ready = second.ready;
        cfg = second.cfg ∙ first.cfg;
        name = second.name ∙ first.name;
        plan = second.plan ∙ first.plan;
        steps = second.steps ∙ ap (λ l. l ++ two) first.steps ∙ append_assoc a.journal.steps one two;
        links = second.links ∙ first.links;
        sends = lanes_are ∙ ap (send_steps a.cfg a.plan two) first.sends ∙ sym (steps_append a.cfg a.plan one two (lanes x a.faults.items));
        valid = all_append (λ (x : Stamped). AreValidMessages x.entry.sends) one two first.valid second.valid;
        in_step = λ at. second.in_step (first.in_step at);
      }

  pub went_then : (a b c : NodeActor N D) → WentOn rules disk a b → WentOn rules disk b c → WentOn rules disk a c
  went_then a b c first second = record {
    more = first.more ++ second.more;
    turned = turned_then first.more second.more a.core b.core c.core a.outs.items b.outs.items c.outs.items first.turned second.turned;
    taken = λ all. second.taken (first.taken all);
  }

  keeps_by : (a b c : NodeActor N D) (s : Option Stopped) → b.stopped ≡ s → Moved rules disk a b → Moved rules disk b c → KeepsItems rules disk a.core c.core
  keeps_by a b c None calm first second =
      let below = first.keeps.no_fall in
      let after = second.keeps.no_fall in
      record {
        cfg = second.keeps.cfg ∙ first.keeps.cfg;
        name = second.keeps.name ∙ first.keeps.name;
        no_fall = omega (arith, below, after);
        tells = λ at. second.keeps.tells ((first.goes calm).turned.in_step at);
      }
  keeps_by a b c (Some why) stopped first second =
      subst (λ (d : NodeActor N D). KeepsItems rules disk a.core d.core) (sym (second.rests why stopped)) first.keeps

  faulty_by : (a b c : NodeActor N D) (s : Option Stopped) → b.stopped ≡ s → Moved rules disk a b → Moved rules disk b c → a.stopped ≡ None
      → c.stopped ≡ Some stops.Disk
      → IsFaulty disk a.core c.core
  faulty_by a b c None calm first second was fails =
      failed_since (disk.faults (disk_in a.core.store)) (disk.faults (disk_in b.core.store)) (disk.faults (disk_in c.core.store))
      (disk.in_a_row (disk_in c.core.store)) first.keeps.no_fall (second.faulty calm fails)
  faulty_by a b c (Some why) stopped first second was fails =
      let same : c ≡ b = second.rests why stopped in
      subst (λ (d : NodeActor N D). IsFaulty disk a.core d.core) (sym same) (first.faulty was (ap (λ (d : NodeActor N D). d.stopped) (sym same) ∙ fails))

  pub moved_then : (a b c : NodeActor N D) → Moved rules disk a b → Moved rules disk b c → Moved rules disk a c
  moved_then a b c first second = record {
    goes = λ is. went_then a b c (first.goes (second.was is)) (second.goes is);
    was = λ is. first.was (second.was is);
    rests = λ why is.
        let same = first.rests why is in
        second.rests why (ap (λ (d : NodeActor N D). d.stopped) same ∙ is) ∙ same;
    outs = second.outs ∙ first.outs;
    ins = second.ins ∙ first.ins;
    keeps = keeps_by a b c b.stopped refl first second;
    faulty = λ was fails. faulty_by a b c b.stopped refl first second was fails;
  }

  moved_if : (a : NodeActor N D) (s : Option Stopped) → a.stopped ≡ s → CanGoOn rules a → Moved rules disk a a
  moved_if a None calm going = none_moved rules disk a a calm calm (going calm) refl refl refl
  moved_if a (Some why) stopped going = record {
    goes = λ is. absurd (is_none_some a.stopped why is stopped);
    was = λ is. is;
    rests = λ other is. refl;
    outs = refl;
    ins = refl;
    keeps = items_kept rules disk a.core a.core (none_kept disk a.core);
    faulty = λ was fails. absurd (is_none_some a.stopped stops.Disk was fails);
  }

  pub moved_itself : (a : NodeActor N D) → CanGoOn rules a → Moved rules disk a a
  moved_itself a going = moved_if a a.stopped refl going

  -- what has moved can go on
  pub still_going : (a b : NodeActor N D) → Moved rules disk a b → CanGoOn rules b
  still_going a b moved = λ calm. (moved.goes calm).turned.ready

  -- ---- turns, and one more

  pub no_turns : (turns : ℕ) (a : NodeActor N D) → TookSteps (AreTurns turns 0) a a
  no_turns turns a = λ calm. ([], sym (append-nil (steps_of a.core)), refl)

  pub turns_then : (turns taken : ℕ) (a b c : NodeActor N D) → (c.stopped ≡ None → b.stopped ≡ None) → TookSteps (AreTurns turns taken) a b
      → TookSteps (IsTurn (is_tick_due taken turns)) b c → TookSteps (AreTurns turns (taken + 1)) a c
  turns_then turns taken a b c was some one = λ calm.
      let first = some (was calm) in
      let last = one calm in
      let more = first.0 ++ last.0 in
      let next : suc taken ≡ taken + 1 = omega arith in (
        more,
        last.1 ∙ ap (λ l. l ++ last.0) first.1 ∙ append_assoc (steps_of a.core) first.0 last.0,
        subst (λ n. AreTurns turns n more) next (first.0, last.0, refl, first.2, last.2),
      )

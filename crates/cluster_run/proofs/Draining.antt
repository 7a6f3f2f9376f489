-- Nodes at their seats can be drained, and why a run ended.
use Rattle.std.proofs.Common.{◌≡◌, inl, inr, List, [], ◌∷◌, map, length, Option, None, Some, Result, Ok, Err, refl, sym, ap, ◌∙◌, subst}
use Rattle.std.specs.List.{AllByRecursion}
use Rattle.std.proofs.lemmas.Option.{none-some, same_Some}
use Rattle.link_rows.specs.Rows.{AreLinked}
use Rattle.node_links.specs.Links.{LinkName}
use Rattle.spec_base.specs.declared.disk.Disk.{Ghosts as DiskRules}
use Rattle.msg_wire.specs.declared.config.Config.{Config}
use Rattle.net_model.specs.declared.model.NodeModel.{Ghosts as NodeRules}
use Rattle.node_actor.specs.declared.actor.NodeActor.{NodeActor}
use Rattle.node_actor.specs.declared.stopped.Stopped.{Stopped}
use Rattle.node_actor.specs.declared.stopped.Stopped.TheVariants as stops
use Rattle.node_actor.specs.Actors.{CanGoOn}
use Rattle.node_actor.specs.Ins.{links_to}
use Rattle.node_actor.specs.Lanes.{links_of}
use Rattle.node_seats.proofs.Zips.{zip_length}
use Rattle.node_seats.specs.Seats.{Seat, IsSeated, AreSeats, AreSeated, AreGoing}
use Rattle.cluster_drain.specs.declared.drained.Early.{Early}
use Rattle.cluster_drain.specs.declared.drained.Early.TheVariants as early
use Rattle.cluster_drain.specs.Drains.{CanDrain}
use Rattle.cluster_run.specs.declared.errors.RunError.{RunError}
use Rattle.cluster_run.specs.Answers.{first_stop, stop_or}
use Rattle.cluster_run.specs.Running.{EndedBy, cause_of, first_of}

module _ {N D : Type 0} (rules : NodeRules N) (disk : DiskRules D) where
  can_each : (seats : List Seat) (actors : List (NodeActor N D)) → AreSeated rules disk seats actors → AllByRecursion (CanGoOn rules) actors
  can_each [] [] seated = tt
  can_each [] (a ∷ actors) seated = absurd seated
  can_each (s ∷ seats) [] seated = absurd seated
  can_each (s ∷ seats) (a ∷ actors) seated = ((λ going. (seated.0.going going).ready), can_each seats actors seated.1)

  outs_are : (seats : List Seat) (actors : List (NodeActor N D)) → AreSeated rules disk seats actors
      → map (λ (a : NodeActor N D). links_of a.outs.items) actors ≡ map (λ (s : Seat). s.outs) seats
  outs_are [] [] seated = refl
  outs_are [] (a ∷ actors) seated = absurd seated
  outs_are (s ∷ seats) [] seated = absurd seated
  outs_are (s ∷ seats) (a ∷ actors) seated =
      ap (λ l. l ∷ map (λ (b : NodeActor N D). links_of b.outs.items) actors) seated.0.outs ∙ ap (λ l. s.outs ∷ l) (outs_are seats actors seated.1)

  ins_are : (seats : List Seat) (actors : List (NodeActor N D)) → AreSeated rules disk seats actors
      → map (λ (a : NodeActor N D). links_to a.ins.items) actors ≡ map (λ (s : Seat). s.ins) seats
  ins_are [] [] seated = refl
  ins_are [] (a ∷ actors) seated = absurd seated
  ins_are (s ∷ seats) [] seated = absurd seated
  ins_are (s ∷ seats) (a ∷ actors) seated =
      ap (λ l. l ∷ map (λ (b : NodeActor N D). links_to b.ins.items) actors) seated.0.ins ∙ ap (λ l. s.ins ∷ l) (ins_are seats actors seated.1)

  pub seated_can_drain : (cfg : Config) (seats : List Seat) (actors : List (NodeActor N D)) → AreSeats cfg seats → AreSeated rules disk seats actors
      → CanDrain rules actors
  seated_can_drain cfg seats actors are seated = record {
    each = can_each seats actors seated;
    linked = subst (λ n. AreLinked n outs' ins') (zip_length (IsSeated rules disk) seats actors seated)
        (subst (λ o. AreLinked (length seats) o ins') (sym (outs_are seats actors seated))
        (subst (AreLinked (length seats) (map (λ (s : Seat). s.outs) seats)) (sym (ins_are seats actors seated)) are.linked));
  } where
    outs' : List (List LinkName)
    outs' = map (λ (a : NodeActor N D). links_of a.outs.items) actors

    ins' : List (List LinkName)
    ins' = map (λ (a : NodeActor N D). links_to a.ins.items) actors

-- none of them is stopped
pub none_stopped : {N D : Type 0} (actors : List (NodeActor N D)) → first_stop actors ≡ None → AreGoing actors
none_stopped [] none = tt
none_stopped (a ∷ actors) none = first_goes a.stopped refl (λ later. none_stopped actors later) where
  first_goes : (stopped : Option Stopped) → a.stopped ≡ stopped → (first_stop actors ≡ None → AreGoing actors) → AreGoing (a ∷ actors)
  first_goes None is later = (is, later (ap (λ st. stop_or a.core.name st (first_stop actors)) (sym is) ∙ none))
  first_goes (Some stops.Disk) is later = absurd (none-some _ (sym (ap (λ st. stop_or a.core.name st (first_stop actors)) (sym is) ∙ none)))
  first_goes (Some stops.Memory) is later = absurd (none-some _ (sym (ap (λ st. stop_or a.core.name st (first_stop actors)) (sym is) ∙ none)))

-- why a run ended, by the first node that was stopped, or else by what cut the drain short
pub ended_by : {N D : Type 0} (actors : List (NodeActor N D)) (cut : Option Early) (stop : Option RunError) → stop ≡ cause_of (first_stop actors) cut
    → EndedBy stop actors
ended_by actors cut stop is = by (first_stop actors) refl cut is where
  by : (first : Option RunError) → first_stop actors ≡ first → (cut : Option Early) → stop ≡ cause_of first cut → EndedBy stop actors
  by (Some error) same cut is = record {
    going = λ none. absurd (none-some error (sym none ∙ is));
    cause = λ other at. inl (same ∙ sym is ∙ at);
  }
  by None same None is = record { going = λ none. none_stopped actors same; cause = λ other at. absurd (none-some other (sym is ∙ at)) }
  by None same (Some early.Limit) is = record { going = λ none. none_stopped actors same; cause = λ other at. absurd (none-some other (sym is ∙ at)) }
  by None same (Some early.Stopped) is = record { going = λ none. none_stopped actors same; cause = λ other at. absurd (none-some other (sym is ∙ at)) }
  by None same (Some early.Memory) is = record {
    going = λ none. none_stopped actors same;
    cause = λ other at. inr (sym (same_Some _ _ (sym is ∙ at)));
  }

-- the same, where memory may have been wanted before
pub ended_first : {N D T E : Type 0} (actors : List (NodeActor N D)) (stop result : Option RunError) (followed : Result T E)
    → result ≡ first_of stop followed → EndedBy stop actors → EndedBy result actors
ended_first actors (Some error) result followed is ended = subst (λ s. EndedBy s actors) (sym is) ended
ended_first actors None result (Ok done) is ended = subst (λ s. EndedBy s actors) (sym is) ended
ended_first actors None result (Err e) is ended = record {
  going = λ none. ended.going refl;
  cause = λ other at. inr (sym (same_Some _ _ (sym is ∙ at)));
}

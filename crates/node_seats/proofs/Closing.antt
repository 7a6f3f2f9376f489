-- All nodes, with their links settled: each frame that one received was sent by a step of another, so that the journals make a run.
use Rattle.std.proofs.Common.{◌≡◌, ℕ, zero, suc, ◌<◌, List, [], ◌∷◌, length, map, None, Some, refl, sym, ap, ◌∙◌, subst, arith}
use Rattle.std.specs.List.{AllByRecursion, Contains}
use Rattle.std.specs.Option.{option_map}
use Rattle.std.specs.Prelude.{slice_get}
use Rattle.std.proofs.lemmas.List.{length-map}
use Rattle.std.proofs.lemmas.List.Elements.{Contains-append_left, Contains-append_right}
use Rattle.std.proofs.lemmas.Option.{none-some, slice_get-map, slice_get_within}
use Rattle.node_links.specs.declared.frame.Frame.{Frame}
use Rattle.node_links.specs.Links.{LinkName, Sending, Receiving, queued}
use Rattle.link_rows.specs.Rows.{at_of_row, entry_at}
use Rattle.spec_base.specs.declared.disk.Disk.{Ghosts as DiskRules}
use Rattle.msg_wire.specs.declared.config.Config.{Config}
use Rattle.net_model.specs.declared.journal.Stamped.{Stamped}
use Rattle.net_model.specs.declared.model.NodeModel.{Ghosts as NodeRules}
use Rattle.net_model.specs.Journals.{OwnSteps, all_steps}
use Rattle.net_model.specs.Merges.{past_in}
use Rattle.net_model.specs.Pasts.{Throughout}
use Rattle.net_model.specs.Sources.{DeliveriesAreSent, InEach}
use Rattle.node_actor.specs.declared.actor.NodeActor.{NodeActor}
use Rattle.node_actor.specs.Cores.{steps_of}
use Rattle.node_actor.specs.Steps.{IsOwnStep}
use Rattle.frame_sources.specs.Frames.{IsOfStep, ReceivedOfSteps, TookReceived, own_steps}
use Rattle.frame_sources.proofs.Taking.{received_means_sent}
use Rattle.node_seats.specs.Seats.{Seat, AreGoing, AreSeated, AreSeats, AreSettled, IsInOrder, IsSeated, ins_of, journals_of, outs_of}
use Rattle.node_seats.proofs.Taking.{among, link_of_frame, node_steps, queued_of_steps, took_received}
use Rattle.node_seats.proofs.Zips.{all_at, all_from, all_map, zip_at, zip_length}

-- the steps of one journal are among those of all
step_of_all : (journals : List OwnSteps) (k : ℕ) (j : OwnSteps) (x : Stamped) → slice_get journals k ≡ Some j → Contains j.steps x → Contains
    (all_steps journals) x
step_of_all [] k j x at there = absurd (none-some j at)
step_of_all (i ∷ journals) zero j x at there =
    let same : i ≡ j = cc in
    Contains-append_left i.steps (all_steps journals) x (subst (λ (o : OwnSteps). Contains o.steps x) (sym same) there)
step_of_all (i ∷ journals) (suc k) j x at there = Contains-append_right i.steps (all_steps journals) x (step_of_all journals k j x at there)

of_all : (journals : List OwnSteps) (k : ℕ) (j : OwnSteps) (f : Frame) → slice_get journals k ≡ Some j → IsOfStep j.steps f → IsOfStep (all_steps journals) f
of_all journals k j f at of = record {
  by = of.by;
  there = step_of_all journals k j of.by at of.there;
  message = of.message;
  valid = of.valid;
  sends = of.sends;
  carried = of.carried;
}

module _ {N D : Type 0} (rules : NodeRules N) (disk : DiskRules D) where
  own_are : (actors : List (NodeActor N D)) → own_steps (map (node_steps rules disk) actors) ≡ journals_of actors
  own_are [] = refl
  own_are (a ∷ actors) = ap (λ l. a.core.journal ∷ l) (own_are actors)

  -- what is given of all nodes at the end
  pub record AtEnd (cfg : Config) (seats : List Seat) (actors : List (NodeActor N D)) : Type 0 where
    pub seats_are : AreSeats cfg seats
    pub seated : AreSeated rules disk seats actors
    pub going : AreGoing actors
    pub settled : AreSettled actors

  module _ (cfg : Config) (seats : List Seat) (actors : List (NodeActor N D)) (end : AtEnd cfg seats actors) where
    same_count : length seats ≡ length actors
    same_count = zip_length (IsSeated rules disk) seats actors end.seated

    in_order : (k : ℕ) (a : NodeActor N D) → slice_get actors k ≡ Some a → IsInOrder rules disk a
    in_order k a at =
        let seat = zip_at (IsSeated rules disk) seats actors k a end.seated at in
        seat.2.going (all_at (λ (b : NodeActor N D). b.stopped ≡ None) actors k a end.going at)

    -- as many links go to a node, and from it, as there are nodes
    ins_length : (k : ℕ) (a : NodeActor N D) → slice_get actors k ≡ Some a → length a.ins.items ≡ length seats
    ins_length k a at =
        let found = zip_at (IsSeated rules disk) seats actors k a end.seated at in
        let row : slice_get (map (λ (s : Seat). s.ins) seats) k ≡ Some found.0.ins =
        slice_get-map (λ (s : Seat). s.ins) seats k ∙ ap (option_map (λ (s : Seat). s.ins)) found.1 in
        let width = all_at (λ (l : List LinkName). length l ≡ length seats) (map (λ (s : Seat). s.ins) seats) k found.0.ins
        end.seats_are.linked.ins_are.width_is row in
        sym (length-map a.ins.items (λ (i : Receiving). i.link)) ∙ ap length found.2.ins ∙ width

    outs_length : (k : ℕ) (a : NodeActor N D) → slice_get actors k ≡ Some a → length a.outs.items ≡ length seats
    outs_length k a at =
        let found = zip_at (IsSeated rules disk) seats actors k a end.seated at in
        let row : slice_get (map (λ (s : Seat). s.outs) seats) k ≡ Some found.0.outs =
        slice_get-map (λ (s : Seat). s.outs) seats k ∙ ap (option_map (λ (s : Seat). s.outs)) found.1 in
        let width = all_at (λ (l : List LinkName). length l ≡ length seats) (map (λ (s : Seat). s.outs) seats) k found.0.outs
        end.seats_are.linked.outs_are.width_is row in
        sym (length-map a.outs.items (λ (o : Sending). o.link)) ∙ ap length found.2.outs ∙ width

    -- a frame that the node at one place received of the one at another
    frame_sent : (to from : ℕ) (a b : NodeActor N D) (into : Receiving) (out : Sending) (f : Frame) → slice_get actors to ≡ Some a
        → slice_get actors from ≡ Some b → slice_get a.ins.items from ≡ Some into → slice_get b.outs.items to ≡ Some out → Contains into.received f
        → IsOfStep (all_steps (journals_of actors)) f
    frame_sent to from a b into out f at_a at_b at_into at_out there =
        let order = in_order from b at_b in
        let out_at : entry_at (outs_of actors) from to ≡ Some out =
        ap (λ row. at_of_row row to) (slice_get-map (λ (c : NodeActor N D). c.outs.items) actors from ∙ ap
        (option_map (λ (c : NodeActor N D). c.outs.items)) at_b) ∙ at_out in
        let into_at : entry_at (ins_of actors) to from ≡ Some into =
        ap (λ row. at_of_row row from) (slice_get-map (λ (c : NodeActor N D). c.ins.items) actors to ∙ ap
        (option_map (λ (c : NodeActor N D). c.ins.items)) at_a) ∙ at_into in
        let pushed : Contains out.pushed f =
        subst (λ l. Contains l f) (end.settled from to out into out_at into_at) (Contains-append_left into.received into.waiting f there) in
        let of = among (IsOfStep (steps_of b.core)) (queued out) f
        (queued_of_steps (steps_of b.core) b.outs.items b.core.faults.items to out order.each_lane at_out order.carry)
        (Contains-append_left out.pushed out.waiting f pushed) in
        of_all (journals_of actors) from b.core.journal f
        (slice_get-map (λ (c : NodeActor N D). c.core.journal) actors from ∙ ap (option_map (λ (c : NodeActor N D). c.core.journal)) at_b) of

    got : {X : Type 0} (xs : List X) (k : ℕ) → k < length xs → (x : X) × (slice_get xs k ≡ Some x)
    got [] k within = absurd (omega (arith, within))
    got (x ∷ xs) zero within = (x, refl)
    got (x ∷ xs) (suc k) within = got xs k (omega (arith, within))

    received_sent : (to : ℕ) (a : NodeActor N D) → slice_get actors to ≡ Some a → ReceivedOfSteps (journals_of actors) (node_steps rules disk a)
    received_sent to a at = λ f there.
        let from = link_of_frame a.ins.items f there in
        let low : from.place < length actors =
        omega (arith, slice_get_within a.ins.items from.place from.into from.at, ins_length to a at, same_count) in
        let sender = got actors from.place low in
        let out = got sender.0.outs.items to (omega (arith, slice_get_within actors to a at, outs_length from.place sender.0 sender.1, same_count)) in
        frame_sent to from.place a sender.0 from.into out.0 f at sender.1 from.at out.1 from.there

    sent : DeliveriesAreSent (journals_of actors)
    sent =
        let all = map (node_steps rules disk) actors in
        let took = all_map (node_steps rules disk) TookReceived actors
        (all_from (λ (a : NodeActor N D). TookReceived (node_steps rules disk a)) actors (λ k a at. took_received rules disk a (in_order k a at))) in
        let received = all_map (node_steps rules disk) (ReceivedOfSteps (journals_of actors)) actors
        (all_from (λ (a : NodeActor N D). ReceivedOfSteps (journals_of actors) (node_steps rules disk a)) actors received_sent) in
        subst DeliveriesAreSent (own_are actors)
        (received_means_sent all took (subst (λ j. AllByRecursion (ReceivedOfSteps j) all) (sym (own_are actors)) received))

    own_step : (k : ℕ) (a : NodeActor N D) → slice_get actors k ≡ Some a → Throughout (IsOwnStep rules cfg) (past_in a.core.journal.steps)
    own_step k a at =
        let found = zip_at (IsSeated rules disk) seats actors k a end.seated at in
        let same : a.core.cfg ≡ cfg = found.2.cfg ∙ all_at (λ (s : Seat). s.cfg ≡ cfg) seats k found.0 end.seats_are.cfgs found.1 in
        subst (λ c. Throughout (IsOwnStep rules c) (past_in a.core.journal.steps)) same (in_order k a at).in_step.own

    pub own : InEach (IsOwnStep rules cfg) (journals_of actors)
    own =
        all_map (λ (a : NodeActor N D). a.core.journal) (λ (j : OwnSteps). Throughout (IsOwnStep rules cfg) (past_in j.steps)) actors
        (all_from (λ (a : NodeActor N D). Throughout (IsOwnStep rules cfg) (past_in a.core.journal.steps)) actors own_step)

  pub closing : (cfg : Config) (seats : List Seat) (actors : List (NodeActor N D)) → AreSeats cfg seats → AreSeated rules disk seats actors → AreGoing actors
      → AreSettled actors → DeliveriesAreSent (journals_of actors) × InEach (IsOwnStep rules cfg) (journals_of actors)
  closing cfg seats actors seats_are seated going settled =
      let end : AtEnd cfg seats actors = record { seats_are = seats_are; seated = seated; going = going; settled = settled } in
      (sent cfg seats actors end, own cfg seats actors end)

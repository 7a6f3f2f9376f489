-- One node: each message that it took came in a frame that it received, and was valid; and its links carry what its steps sent.
use Rattle.std.proofs.Common.{◌≡◌, inl, inr, ℕ, zero, suc, List, [], ◌∷◌, ◌++◌, length, Some, refl, sym, ap, ◌∙◌, subst, arith}
use Rattle.std.specs.List.{AllByRecursion, Contains}
use Rattle.std.specs.Prelude.{slice_get}
use Rattle.std.proofs.lemmas.Option.{none-some, same_Some, slice_get-get_or}
use Rattle.std.proofs.lemmas.List.Elements.{All-contains, All-from_recursion, Contains-append_left, Contains-append_right, Contains-append_cases}
use Rattle.link_faults.specs.Faults.{Holding}
use Rattle.node_links.specs.declared.frame.Frame.{Frame}
use Rattle.node_links.specs.Links.{Sending, Receiving, queued}
use Rattle.spec_base.specs.declared.disk.Disk.{Ghosts as DiskRules}
use Rattle.msg_wire.specs.declared.config.Config.{Config}
use Rattle.msg_wire.specs.Valid.{IsValidEvent}
use Rattle.net_model.specs.declared.history.HistoryEntry.{HistoryEntry}
use Rattle.net_model.specs.declared.journal.Stamped.{Stamped}
use Rattle.net_model.specs.declared.model.NodeModel.{Ghosts as NodeRules}
use Rattle.net_model.specs.Merges.{past_in}
use Rattle.net_model.specs.Names.{Message}
use Rattle.net_model.specs.Names.events
use Rattle.net_model.specs.Pasts.{Past, Throughout}
use Rattle.net_model.proofs.Histories.{past_append}
use Rattle.node_order.specs.Places.{rank_of}
use Rattle.node_actor.specs.declared.actor.NodeActor.{NodeActor}
use Rattle.node_actor.specs.Cores.{past_at, steps_of}
use Rattle.node_actor.specs.Ins.{CameBy}
use Rattle.node_actor.specs.Lanes.{lanes}
use Rattle.node_actor.specs.Steps.{IsOwnStep}
use Rattle.frame_sources.specs.Frames.{CarrySteps, IsOfStep, NodeSteps, TookReceived}
use Rattle.node_seats.specs.Seats.{IsInOrder}
use Rattle.node_seats.proofs.Zips.{all_both}

-- it holds of each item of a list, and so of this one
pub among : {X : Type 0} (P : X → Type 0) (xs : List X) (x : X) → AllByRecursion P xs → Contains xs x → P x
among P xs x all there = All-contains P xs x (All-from_recursion P xs all) there

-- ---- the messages that come are valid

abbrev IsValidEntry : HistoryEntry → Type 0
IsValidEntry e = IsValidEvent e.event

valid_past : {N : Type 0} (rules : NodeRules N) (cfg : Config) (past : Past) → Throughout (IsOwnStep rules cfg) past → AllByRecursion IsValidEntry past
valid_past rules cfg [] own = tt
valid_past rules cfg (e ∷ past) own = (own.0.takes.valid, valid_past rules cfg past own.1)

valid_steps : (steps : List Stamped) → AllByRecursion IsValidEntry (past_in steps) → AllByRecursion (λ (x : Stamped). IsValidEntry x.entry) steps
valid_steps [] all = tt
valid_steps (x ∷ steps) all =
    let both = all_both IsValidEntry (past_in steps) (x.entry ∷ []) (subst (AllByRecursion IsValidEntry) (past_append (x ∷ []) steps) all) in
    (both.1.0, valid_steps steps both.0)

-- ---- what a node received

abbrev pub all_received : List Receiving → List Frame
all_received [] = []
all_received (into ∷ ins) = into.received ++ all_received ins

pub received_at : (ins : List Receiving) (k : ℕ) (into : Receiving) (f : Frame) → slice_get ins k ≡ Some into → Contains into.received f
    → Contains (all_received ins) f
received_at [] k into f at there = absurd (none-some into at)
received_at (i ∷ ins) zero into f at there =
    Contains-append_left i.received (all_received ins) f (subst (λ (r : Receiving). Contains r.received f) (sym (same_Some i into at)) there)
received_at (i ∷ ins) (suc k) into f at there = Contains-append_right i.received (all_received ins) f (received_at ins k into f at there)

-- the link that gave a frame
pub record IsFrom (ins : List Receiving) (f : Frame) : Type 0 where
  pub place : ℕ
  pub into : Receiving
  pub at : slice_get ins place ≡ Some into
  pub there : Contains into.received f

pub link_of_frame : (ins : List Receiving) (f : Frame) → Contains (all_received ins) f → IsFrom ins f
link_of_frame [] f there = absurd (omega (arith, there.1))
link_of_frame (i ∷ ins) f there =
    elim (Contains-append_cases i.received (all_received ins) f there) [
      | inl first ↦ record { place = 0; into = i; at = refl; there = first }
      | inr later ↦ let found = link_of_frame ins f later in record { place = suc found.place; into = found.into; at = found.at; there = found.there }
    ]

module _ {N D : Type 0} (rules : NodeRules N) (disk : DiskRules D) where
  abbrev pub node_steps : NodeActor N D → NodeSteps
  node_steps actor = record { own = actor.core.journal; received = all_received actor.ins.items }

  pub took_received : (actor : NodeActor N D) → IsInOrder rules disk actor → TookReceived (node_steps actor)
  took_received actor at = λ x m there takes.
      let steps = steps_of actor.core in
      let came = among (λ (y : Stamped). (n : Message) → y.entry.event ≡ events.Deliver n → CameBy actor.core.cfg actor.ins.items n y.stamp) steps x
      at.taken there m takes in
      let valid = among (λ (y : Stamped). IsValidEntry y.entry) steps x
      (valid_steps steps (valid_past rules actor.core.cfg (past_at actor.core) at.in_step.own)) there in
      record {
        frame = came.frame;
        there = received_at actor.ins.items (rank_of actor.core.cfg m.from) came.link came.frame
            (slice_get-get_or actor.ins.items (rank_of actor.core.cfg m.from) came.link came.within ∙ ap Some came.is_there) came.received;
        below = came.below;
        valid = subst IsValidEvent takes valid;
        whole = came.spelled;
      }

-- ---- what was queued on a link was sent

pub queued_of_steps : (steps : List Stamped) (outs : List Sending) (faults : List Holding) (k : ℕ) (out : Sending) → length (lanes outs faults) ≡ length outs
    → slice_get outs k ≡ Some out → CarrySteps steps (lanes outs faults) → AllByRecursion (IsOfStep steps) (queued out)
queued_of_steps steps [] faults k out each at carry = absurd (none-some out at)
queued_of_steps steps (o ∷ outs) [] k out each at carry = absurd (omega (arith, each))
queued_of_steps steps (o ∷ outs) (h ∷ faults) zero out each at carry =
    subst (λ (s : Sending). AllByRecursion (IsOfStep steps) (queued s)) (same_Some o out at) carry.0.0
queued_of_steps steps (o ∷ outs) (h ∷ faults) (suc k) out each at carry = queued_of_steps steps outs faults k out (omega (arith, each)) at carry.1

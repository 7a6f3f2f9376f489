-- Links carry what steps sent: one message, the messages of a step, and steps, one after the other.
use Rattle.std.proofs.Common.{ℕ, zero, suc, Bool, true, false, cond, inl, inr, List, [], ◌∷◌, ◌++◌, Option, Some, None, refl, arith}
use Rattle.std.specs.Prelude.{Contains}
use Rattle.std.specs.List.{AllByRecursion}
use Rattle.std.proofs.lemmas.List.Elements.{Contains-append_left, Contains-append_right}
use Rattle.link_faults.specs.declared.plan.FaultPlan.{FaultPlan}
use Rattle.link_faults.specs.declared.fate.Fate.{Fate}
use Rattle.link_faults.specs.declared.fate.Fate.TheVariants as fates
use Rattle.link_faults.specs.Faults.{cut_frame, held_frames, held_by, queued_by, what_is_queued, next_fate}
use Rattle.link_faults.proofs.Among.{all_append}
use Rattle.node_links.specs.declared.frame.Frame.{Frame}
use Rattle.msg_wire.specs.declared.config.Config.{Config}
use Rattle.msg_wire.specs.Nodes.{is_node_of}
use Rattle.msg_wire.specs.Steps.{AreValidMessages}
use Rattle.net_model.specs.declared.journal.Stamped.{Stamped}
use Rattle.net_model.specs.Names.{Message}
use Rattle.node_order.specs.Places.{rank_of}
use Rattle.node_actor.specs.Lanes.{Lane, passed, released, at_place, frame_of, send_message, send_messages, send_steps}
use Rattle.frame_sources.specs.Frames.{IsOfStep, OnLane, CarrySteps}

-- ---- elements

pub here : {X : Type 0} → (x : X) (xs : List X) → Contains (x ∷ xs) x
here x xs = (0, omega arith, refl)

pub behind : {X : Type 0} → (x : X) (xs : List X) (y : X) → Contains xs y → Contains (x ∷ xs) y
behind x xs y later = Contains-append_right (x ∷ []) xs y later

-- ---- one link

queued_each : (P : Frame → Type 0) (fate : Fate) (f : Frame) → P f → P (cut_frame f) → AllByRecursion P (queued_by fate f)
queued_each P fates.Lost f whole cut = tt
queued_each P fates.Twice f whole cut = (whole, (whole, tt))
queued_each P fates.Late f whole cut = tt
queued_each P fates.Cut f whole cut = (cut, tt)
queued_each P fates.Once f whole cut = (whole, tt)

held_each : (P : Frame → Type 0) (fate : Fate) (f : Frame) → P f → AllByRecursion P (held_frames (held_by fate f))
held_each P fates.Lost f whole = tt
held_each P fates.Twice f whole = tt
held_each P fates.Late f whole = (whole, tt)
held_each P fates.Cut f whole = tt
held_each P fates.Once f whole = tt

passed_each : (P : Frame → Type 0) (plan : Option FaultPlan) (f : Frame) (l : Lane) → P f → P (cut_frame f) → OnLane P l → OnLane P (passed plan f l)
passed_each P None f l whole cut each = (all_append P l.queued (f ∷ []) each.0 (whole, tt), each.1)
passed_each P (Some plan) f l whole cut each =
    let fate = next_fate plan l.faults in (
      all_append P l.queued (what_is_queued fate f l.faults.held) each.0
          (all_append P (queued_by fate f) (held_frames l.faults.held) (queued_each P fate f whole cut) each.1),
      held_each P fate f whole,
    )

-- what was held is queued
pub released_each : (P : Frame → Type 0) (l : Lane) → OnLane P l → OnLane P (released l)
released_each P l each = (all_append P l.queued (held_frames l.faults.held) each.0 each.1, tt)

-- ---- the links of a node

at_each : (P : Frame → Type 0) (plan : Option FaultPlan) (f : Frame) (place : ℕ) (ls : List Lane) → P f → P (cut_frame f) → AllByRecursion (OnLane P) ls
    → AllByRecursion (OnLane P) (at_place place (passed plan f) ls)
at_each P plan f place [] whole cut each = tt
at_each P plan f zero (l ∷ ls) whole cut each = (passed_each P plan f l whole cut each.0, each.1)
at_each P plan f (suc place) (l ∷ ls) whole cut each = (each.0, at_each P plan f place ls whole cut each.1)

send_if : (P : Frame → Type 0) (here : Bool) (sent ls : List Lane) → AllByRecursion (OnLane P) sent → AllByRecursion (OnLane P) ls
    → AllByRecursion (OnLane P) (cond here sent ls)
send_if P true sent ls each_sent each = each_sent
send_if P false sent ls each_sent each = each

message_each : (P : Frame → Type 0) (cfg : Config) (plan : Option FaultPlan) (stamp : ℕ) (m : Message) (ls : List Lane) → P (frame_of stamp m)
    → P (cut_frame (frame_of stamp m)) → AllByRecursion (OnLane P) ls → AllByRecursion (OnLane P) (send_message cfg plan stamp m ls)
message_each P cfg plan stamp m ls whole cut each =
    send_if P (is_node_of cfg m.to) (at_place (rank_of cfg m.to) (passed plan (frame_of stamp m)) ls) ls
    (at_each P plan (frame_of stamp m) (rank_of cfg m.to) ls whole cut each) each

-- the messages of a step that is among the steps
messages_carry : (cfg : Config) (plan : Option FaultPlan) (steps : List Stamped) (x : Stamped) (ms : List Message) (ls : List Lane) → Contains steps x
    → ((m : Message) → Contains ms m → Contains x.entry.sends m) → AreValidMessages ms → CarrySteps steps ls
    → CarrySteps steps (send_messages cfg plan x.stamp ms ls)
messages_carry cfg plan steps x [] ls there within valid carry = carry
messages_carry cfg plan steps x (m ∷ ms) ls there within valid carry =
    let sends : Contains x.entry.sends m = within m (here m ms) in
    let whole : IsOfStep steps (frame_of x.stamp m) =
    record { by = x; there = there; message = m; valid = valid.0; sends = sends; carried = inl refl } in
    let cut : IsOfStep steps (cut_frame (frame_of x.stamp m)) =
    record { by = x; there = there; message = m; valid = valid.0; sends = sends; carried = inr refl } in
    messages_carry cfg plan steps x ms (send_message cfg plan x.stamp m ls) there (λ n later. within n (behind m ms n later)) valid.1
    (message_each (IsOfStep steps) cfg plan x.stamp m ls whole cut carry)

steps_carry : (cfg : Config) (plan : Option FaultPlan) (steps more : List Stamped) (ls : List Lane) → ((x : Stamped) → Contains more x → Contains steps x)
    → AllByRecursion (λ (x : Stamped). AreValidMessages x.entry.sends) more → CarrySteps steps ls → CarrySteps steps (send_steps cfg plan more ls)
steps_carry cfg plan steps [] ls within valid carry = carry
steps_carry cfg plan steps (x ∷ more) ls within valid carry =
    steps_carry cfg plan steps more (send_messages cfg plan x.stamp x.entry.sends ls) (λ y later. within y (behind x more y later)) valid.1
    (messages_carry cfg plan steps x x.entry.sends ls (within x (here x more)) (λ m there. there) valid.0 carry)

-- ---- more steps

frames_more : (steps more : List Stamped) (frames : List Frame) → AllByRecursion (IsOfStep steps) frames → AllByRecursion (IsOfStep (steps ++ more)) frames
frames_more steps more [] each = tt
frames_more steps more (f ∷ frames) each = (
  record {
    by = each.0.by;
    there = Contains-append_left steps more each.0.by each.0.there;
    message = each.0.message;
    valid = each.0.valid;
    sends = each.0.sends;
    carried = each.0.carried;
  },
  frames_more steps more frames each.1,
)

pub carry_more : (steps more : List Stamped) (ls : List Lane) → CarrySteps steps ls → CarrySteps (steps ++ more) ls
carry_more steps more [] carry = tt
carry_more steps more (l ∷ ls) carry =
    ((frames_more steps more l.queued carry.0.0, frames_more steps more (held_frames l.faults.held) carry.0.1), carry_more steps more ls carry.1)

pub links_carry : (cfg : Config) (plan : Option FaultPlan) (steps more : List Stamped) (ls : List Lane)
    → AllByRecursion (λ (x : Stamped). AreValidMessages x.entry.sends) more → CarrySteps steps ls → CarrySteps (steps ++ more) (send_steps cfg plan more ls)
links_carry cfg plan steps more ls valid carry =
    steps_carry cfg plan (steps ++ more) more ls (λ x there. Contains-append_right steps more x there) valid (carry_more steps more ls carry)

-- The short histories of specs/Broken.antt: each breaks the sentence that is taken out of the law here.
use Rattle.std.proofs.Common.{◌≡◌, get_or, length, ◌⊎◌, ℕ, zero, suc, ◌<◌, ◌≤◌, List, [], ◌∷◌, Contains, refl, sym, ap, subst, inl, inr, arith}
use Rattle.std.specs.Prelude.{slice_index, unwrap_or}
use Rattle.std.specs.Fmt.{digits}
use Rattle.std.proofs.lemmas.Bool.{false≢true}
use Rattle.app_law.specs.declared.any_app.AnyApp.{AnyApp}
use Rattle.app_law.specs.declared.any_app.AnyApp.TheVariants as apps
use Rattle.cut_core.specs.declared.effects.Effect.{Effect}
use Rattle.cut_core.specs.declared.effects.Effect.TheVariants.{Removed}
use Rattle.cut_core.specs.Effects.{effect_of}
use Rattle.node_rules.specs.Examples.{single, pair, trio, k0, five, seven}
use Rattle.client_node.specs.States.{reach}
use Rattle.runs.specs.Names.{Entry, Record, Mark}
use Rattle.runs.specs.Names.entries
use Rattle.runs.specs.Names.records
use Rattle.runs.specs.Names.marks
use Rattle.runs.specs.Names.sides
use Rattle.runs.specs.Runs.{IsPastOf}
use Rattle.runs.specs.OneLog.{IsOneLog}
use Rattle.runs.specs.Truth.{IsTruthful}
use Rattle.runs.specs.Speculating.{SpeculationHolds}
use Rattle.runs.specs.Outputs.{OutputsFollowConfirmed}
use Rattle.runs.specs.Undos.{StateFollowsApplied}
use Rattle.runs.specs.Known.{agreed_at}
use Rattle.runs.specs.Chosen.{IsChosen}
use Rattle.runs.specs.Cuts.{CutsAreTrue, IsTrueCutAfter}
use Rattle.runs.specs.Eagerness.{IsEager, IsHanded}
use Rattle.runs.specs.BrokenEntries.{triple, append, replicate, replicate_other, two_held}
use Rattle.runs.specs.Broken as broken
use Rattle.runs.proofs.Clashes.{cons_nil, nil_cons, none_some, some_none, equal_less, greater_less, tick_deliver, no_member, only_member, neither}

-- ---- a number of each thing, by which two are told apart

number_of : Record → ℕ
number_of (records.Data client number body) = number
number_of records.Noop = 0

pub five_seven : five ≡ seven → ⊥
unfolding number_of
five_seven e = let clash : ◌≡◌ {A = ℕ} 0 1 = ap number_of e in omega arith

total_of : AnyApp → ℕ
total_of (apps.Tally t) = t.total
total_of _ = 0

first_of : Effect → ℕ
first_of (Removed shard first) = first
first_of _ = 0

notice_of : Mark → ℕ
notice_of (marks.Notice first) = first
notice_of _ = 0

-- ---- runs

send_is_left_out : ¬ IsPastOf single broken.silent
unfolding reach
send_is_left_out h = nil_cons h.0.sends

-- ---- speculation

pub above : (first : ℕ) → first ≤ 0 → marks.Notice 1 ≡ marks.Notice first → ⊥
unfolding notice_of
above first low e = let same : 1 ≡ first = ap notice_of e in omega arith

head_of : List Entry → Entry
head_of [] = entries.Nothing
head_of (entry ∷ later) = entry

-- the removal of shard 1 fails from position 1 on
removal_fails_at_one : (entry : Entry) (shard : ℕ) → entries.Remove 0 1 ∷ [] ≡ entry ∷ [] → effect_of (agreed_at pair k0 []) entry ≡ Removed shard 0 → ⊥
unfolding head_of first_of
removal_fails_at_one entry shard learned effect =
    let same : entry ≡ entries.Remove 0 1 = sym (ap head_of learned) in
    let clash : ◌≡◌ {A = ℕ} 1 0 = ap first_of (subst (λ x. effect_of (agreed_at pair k0 []) x ≡ Removed shard 0) same effect) in
    omega arith

-- ---- outputs

output_left_out : ¬ OutputsFollowConfirmed single broken.output_missing
unfolding digits
output_left_out h = nil_cons (h.outputs 0).0.shown

-- ---- states and undos

state_of_another_list : ¬ StateFollowsApplied single broken.state_behind
unfolding total_of
state_of_another_list h = let clash : ◌≡◌ {A = ℕ} 0 5 = ap total_of (h.state 0).0 in omega arith

-- ---- cuts

early : (chosen : List Entry) → IsTrueCutAfter triple (append ∷ []) 0 0 0 chosen → ⊥
early [] t = let clash : 1 ≤ 0 = t.covered.0.backup in omega arith
early (entry ∷ later) t = omega (arith, t.below)

skipped : (chosen : List Entry) → IsTrueCutAfter trio (replicate ∷ append ∷ []) 0 0 0 chosen → ⊥
skipped [] t = let clash : 1 ≤ 0 = t.covered.1.0.primary in omega arith
skipped (entry ∷ later) t = omega (arith, t.below)

apart : (chosen : List Entry) → IsTrueCutAfter triple (replicate_other ∷ append ∷ []) 0 0 0 chosen → ⊥
apart [] t = five_seven (ap (λ log. get_or log 0 records.Noop) t.covered.0.agree)
apart (entry ∷ later) t = omega (arith, t.below)

-- no sequencer has accepted anything
not_chosen : (entry : Entry) → IsChosen triple (replicate ∷ append ∷ []) 0 entry → ⊥
not_chosen entry c =
    let some : 0 < length c.1 = omega (arith, c.2.most) in
    no_member (c.3 0 0 some)

open_slot : (chosen : List Entry) → IsTrueCutAfter triple (replicate ∷ append ∷ []) 1 0 0 chosen → ⊥
open_slot [] t = omega (arith, t.below)
open_slot (entry ∷ later) t = not_chosen entry (t.chosen_there 0 entry refl)

other_round : (chosen : List Entry) → IsTrueCutAfter triple two_held 0 0 1 chosen → ⊥
other_round [] t = some_none t.fits
other_round (entry ∷ later) t = omega (arith, t.below)

-- ---- eagerness

reaches : (position : ℕ) → position < 1 → Contains [] position ⊎ IsHanded single 0 broken.not_applied position
reaches zero h = inr (record { shard = 0; local = 0 }, refl, (refl, inl (record { here = refl; handed = (sides.Primary, five, refl); in_reach = omega arith })))
reaches (suc position) h = absurd (omega (arith, h))

-- ---- each is refused

pub refused : broken.Refused
refused = record {
  -- runs
  unsent_comes = λ h. no_member h.0.comes.1;
  unleased_is_promised = λ h. cons_nil h.0.shows;
  send_is_left_out = send_is_left_out;
  restart_sends = λ h. cons_nil h.0.sends;
  command_at_a_client = λ h. false≢true h.0.taken_there;
  -- one log
  two_records_at_one_position = λ h. five_seven (h.one_record 0 five seven (0, omega arith, refl) (1, omega arith, refl));
  position_left_out = λ h. let clash : ◌≡◌ {A = ℕ} 1 0 = ap (λ ns. slice_index ns 0) (h.no_gap 0) in omega arith;
  position_confirmed_again = λ h. let clash : ◌≡◌ {A = ℕ} 0 1 = ap (λ ns. slice_index ns 1) (h.no_gap 0) in omega arith;
  -- truth
  record_of_nobody = λ h. none_some (h.submitted 0 0 0 (53 ∷ []) (0, omega arith, refl));
  record_with_another_body = λ h.
      let clash : ◌≡◌ {A = ℕ} 54 53 = ap (λ body. slice_index (unwrap_or body []) 0) (h.submitted 0 0 0 (53 ∷ []) (0, omega arith, refl)) in omega arith;
  record_twice = λ h. equal_less (h.in_order 0 0 0 (53 ∷ []) 1 0 (53 ∷ []) (0, omega arith, refl) (1, omega arith, refl));
  records_out_of_order = λ h. greater_less (h.in_order 0 0 1 (55 ∷ []) 1 0 (53 ∷ []) (0, omega arith, refl) (1, omega arith, refl));
  number_left_out = λ h. let clash : ◌≡◌ {A = ℕ} 1 0 = ap (λ ns. slice_index ns 0) (h.whole 0 0) in omega arith;
  ack_twice = λ h. let clash : ◌≡◌ {A = ℕ} 0 1 = ap (λ ns. slice_index ns 1) (h.acked 0) in omega arith;
  ack_before_its_record = λ h. no_member h.acks_are_true.1.0.0.1;
  -- speculation
  other_record_confirmed = λ h. neither ((h.as_speculated k0).0 five (inr (0, omega arith, refl))) five_seven (λ n. no_member n.2);
  notice_after_the_record = λ h. neither ((h.as_speculated k0).0 five (inr (0, omega arith, refl))) five_seven (λ n. no_member n.2);
  notice_of_later_positions = λ h. neither ((h.as_speculated k0).1.0 five (inr (0, omega arith, refl))) five_seven (λ n. above n.0 n.1 (only_member n.2));
  notice_without_removal = λ h. nil_cons h.notices_are_true.0.0.2;
  notice_of_another_position = λ h. let notice = h.notices_are_true.0.0 in removal_fails_at_one notice.0 notice.1 notice.2 notice.3;
  -- outputs
  apply_past_the_end = λ h. let clash : ◌≡◌ {A = ℕ} 1 0 = (h.at_end 0).0 in omega arith;
  confirmed_before_applied = λ h. nil_cons (h.outputs 0).0.applied.1;
  output_before_confirmation = λ h. cons_nil (h.outputs 0).0.shown;
  output_left_out = output_left_out;
  confirmation_not_stored = λ h. nil_cons (h.outputs 0).0.kept;
  -- states and undos
  state_of_another_list = state_of_another_list;
  undo_without_notice = λ h. h.undos.0.0;
  undo_below_its_notice = λ h. let clash : ◌≡◌ {A = ℕ} 0 1 = h.undos.0.0 in omega arith;
  notice_without_undo = λ h. let clash : 1 ≤ 0 = h.undos.0.0 in omega arith;
  undo_of_nothing = λ h. let clash : 0 < 0 = h.undos.0.1 in omega arith;
  restart_undoes_confirmed = λ h. let clash : ◌≡◌ {A = ℕ} 0 1 = h.undos.0.0 in omega arith;
  -- cuts
  cut_on_the_primary_alone = λ h. early h.0.0.0 h.0.0.1;
  lagging_shard_skipped = λ h. skipped h.0.0.0 h.0.0.1;
  logs_differ = λ h. apart h.0.0.0 h.0.0.1;
  cut_after_an_open_slot = λ h. open_slot h.0.0.0 h.0.0.1;
  round_out_of_turn = λ h. other_round h.0.0.0 h.0.0.1;
  -- eagerness
  handed_and_not_applied = λ h. let clash : 1 ≤ 0 = (h.consumers 0).0.most 1 reaches in omega arith;
  applied_and_not_handed = λ h.
      neither ((h.consumers 0).0.holds 0 (omega arith)) no_member (λ i. neither i.2.1 (λ m. tick_deliver m.handed.2) (λ none. none));
  durable_and_not_promised = λ h.
      neither ((h.primaries 0).0 refl 0 0 (omega arith) refl) (λ covered. omega (arith, covered))
      (λ since. neither since.1 (λ p. no_member p.2) (λ earlier. neither earlier.1 (λ p. no_member p.2) (λ none. none)));
}

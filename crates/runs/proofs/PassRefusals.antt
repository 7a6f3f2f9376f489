-- The short histories of specs/BrokenPasses.antt: each breaks the sentence that is named with it.
use Rattle.std.proofs.Common.{◌≡◌, ◌∙◌, ℕ, ◌<◌, ◌≤◌, get_or, length, take, slice_get, List, [], ◌∷◌, Some, All, refl, sym, ap, subst, inl, inr, arith}
use Rattle.std.specs.Prelude.{unwrap_or, slice_index}
use Rattle.std.specs.Fmt.{digits}
use Rattle.std.specs.Option.{option_map_or}
use Rattle.std.proofs.lemmas.List.Elements.{All-cons}
use Rattle.majority.specs.Ballots.{IsMajority}
use Rattle.majority.proofs.Lists.{IsDistinct_cons, IsDistinct_nil}
use Rattle.fix_ante.specs.declared.spots.Owner.{Owner}
use Rattle.app_law.specs.declared.any_app.AnyApp.{AnyApp}
use Rattle.app_law.specs.declared.any_app.AnyApp.TheVariants as apps
use Rattle.node_rules.specs.Examples.{two_rows, q0, q1, q2, s0p, c0, k0, five, seven}
use Rattle.client_node.specs.States.{reach}
use Rattle.net_model.specs.Pasts.{shown}
use Rattle.runs.specs.Names.{Entry, Mark}
use Rattle.runs.specs.Names.entries
use Rattle.runs.specs.Names.marks
use Rattle.runs.specs.Names.records
use Rattle.runs.specs.Names.sides
use Rattle.runs.specs.Marks.{numbers_of_client}
use Rattle.runs.specs.Chosen.{IsChosen, HasAccepted}
use Rattle.runs.specs.Speculating.{HasNoticed, IsUnnoticed}
use Rattle.runs.specs.Homes.{Home}
use Rattle.runs.specs.BrokenEntries.{triple}
use Rattle.runs.specs.BrokenPasses as broken
use Rattle.runs.specs.BrokenPasses.{RefusedPasses}
use Rattle.runs.proofs.Refusals.{five_seven, above}
use Rattle.runs.proofs.Clashes.{HasNoNotice, no_notice, nil_cons, none_some, no_member, only_member, neither}

-- ---- agreement

nothing_removal : entries.Nothing ≡ broken.removal → ⊥
nothing_removal e = cc

-- sequencers 1 and 2 are a majority of three
all_of_two : (P : ℕ → Type 0) → P 1 → P 2 → All P (1 ∷ 2 ∷ [])
all_of_two P one two = All-cons P 1 (2 ∷ []) one (All-cons P 2 [] two (λ k d h. absurd (omega (arith, h))))

two_of_three : IsMajority 3 (1 ∷ 2 ∷ [])
two_of_three = record {
  within = all_of_two (λ replica. replica < 3) (omega arith) (omega arith);
  distinct = IsDistinct_cons 1 (2 ∷ []) (refl, tt) (IsDistinct_cons 2 [] tt IsDistinct_nil);
  most = omega arith;
}

-- nobody accepted anything
unchosen : (entry : Entry) → IsChosen triple broken.known_unchosen 0 entry → ⊥
unchosen entry c =
    let some : 0 < length c.1 = omega (arith, c.2.most) in
    no_member (c.3 0 0 some)

-- ---- two speculations

unnoticed : (earlier : List Mark) → HasNoNotice earlier → HasNoticed earlier 0 → ⊥
unnoticed earlier none n = no_notice earlier n.0 none n.2

-- what the node shows before the second time
abbrev undone : List Mark
undone = marks.Apply 0 five ∷ marks.Undo 0 ∷ []

-- ---- clients

home : ℕ → ℕ → Home
home shard first = record { shard = shard; first = first }

-- the covered part of an empty log has no number
no_number : (end : ℕ) → Some 0 ≡ Some end → numbers_of_client 0 (take end []) ≡ 0 ∷ [] → ⊥
no_number end gone numbers =
    let zero_end : end ≡ 0 = sym (ap (λ found. unwrap_or found 0) gone) in
    nil_cons (subst (λ n. numbers_of_client 0 (take n []) ≡ 0 ∷ []) zero_end numbers)

-- ---- maps

shard_of : Owner → ℕ
shard_of owner = owner.shard

-- ---- consumers

added_of : AnyApp → ℕ
added_of (apps.Tally t) = t.added
added_of _ = 0

first_state : List AnyApp → ℕ
first_state [] = 9
first_state (state ∷ later) = added_of state

-- ---- all of them

pub refused : RefusedPasses
unfolding reach digits home shard_of added_of first_state
refused = record {
  -- agreement
  two_values_accepted = λ h. nothing_removal (h 0 0 entries.Nothing broken.removal (inl (1, (0, omega arith, refl))) (inl (2, (0, omega arith, refl))));
  two_values_offered = λ h.
      nothing_removal (h 0 0 entries.Nothing broken.removal (inr (q0, q1, (0, omega arith, refl))) (inr (q0, q2, (1, omega arith, refl))));
  two_entries_chosen = λ h.
      nothing_removal (h 0 entries.Nothing broken.removal
      (0, 1 ∷ 2 ∷ [], two_of_three, all_of_two (HasAccepted triple broken.chosen_two 0 0 entries.Nothing) (0, omega arith, refl) (0, omega arith, refl))
      (3, 1 ∷ 2 ∷ [], two_of_three, all_of_two (HasAccepted triple broken.chosen_two 0 3 broken.removal) (1, omega arith, refl) (1, omega arith, refl)));
  known_and_not_chosen = λ h.
      let begins = h.1.begins k0 in
      unchosen entries.Nothing (h.1.chosen 0 entries.Nothing (ap (λ (xs : List Entry). slice_get xs 0) begins.1));
  known_lists_part = λ h.
      let first : List Entry → Entry = λ xs. get_or xs 0 entries.Nothing in
      nothing_removal (sym (ap first (h.1.begins k0).1) ∙ ap first (h.1.begins c0).1);
  -- two speculations
  two_nodes_apart = λ h.
      neither (h s0p k0 [] [] 0 five seven (inr ([], refl)) (inl ([], refl))) five_seven (λ n. neither n (unnoticed [] tt) (unnoticed [] tt));
  one_node_twice = λ h.
      neither (h k0 k0 [] undone 0 five seven (inl (marks.Undo 0 ∷ marks.Apply 0 seven ∷ [], refl)) (inl ([], refl)))
      five_seven (λ n. neither n (unnoticed [] tt) (unnoticed undone (refl, (refl, tt))));
  notice_of_a_third_node = λ h.
      neither (h s0p k0 [] [] 0 five seven (inr ([], refl)) (inl ([], refl))) five_seven (λ n. neither n (unnoticed [] tt) (unnoticed [] tt));
  notice_after_both = λ h.
      neither (h s0p k0 [] [] 0 five seven (inr ([], refl)) (inl (marks.Notice 0 ∷ [], refl))) five_seven (λ n. neither n (unnoticed [] tt) (unnoticed [] tt));
  notice_of_positions_past_it = λ h.
      neither (h s0p k0 [] (marks.Notice 1 ∷ []) 0 five seven (inr ([], refl)) (inl ([], refl)))
      five_seven (λ n. neither n (unnoticed [] tt) (λ late. above late.0 late.1 (only_member late.2)));
  two_records_unnoticed = λ h.
      let none : IsUnnoticed broken.confirmed_apart = λ first. no_notice (shown broken.confirmed_apart) first (refl, (refl, tt)) in
      five_seven (h none 0 five seven (inl (inr (0, omega arith, refl))) (inr (1, omega arith, refl)));
  -- logs
  copy_of_another_record = λ h. five_seven (ap (λ log. get_or log 0 records.Noop) (h 0).1);
  copy_of_no_record = λ h. nil_cons (h 0).1;
  report_past_the_log = λ h. let clash : 1 ≤ 0 = h.0.0 in omega arith;
  report_before_the_record = λ h. let clash : 1 ≤ 0 = h.1.0.0 in omega arith;
  replicated_past_the_log = λ h. let clash : 1 ≤ 0 = h.0.0.backup in omega arith;
  delivered_past_the_backup = λ h. none_some h.0.0.backup;
  another_record_delivered = λ h. five_seven (ap (λ found. unwrap_or found records.Noop) h.0.0.primary);
  covered_past_the_backup = λ h. let clash : 1 ≤ 0 = (h k0 0).backup in omega arith;
  -- clients
  two_firsts_at_one_shard = λ h.
      let clash : ◌≡◌ {A = ℕ} 0 1 = h 0 0 0 1 (sides.Primary, 0, [], (0, omega arith, refl)) (sides.Primary, 1, [], (1, omega arith, refl)) in omega arith;
  number_left_behind = λ h.
      let ends = h 0 (home 0 0) (home 1 1) ([], ([], refl)) in
      no_number ends.end ends.gone ends.numbers;
  record_at_a_covered_local = λ h.
      let clash : 1 ≤ 0 = h 0 (home 0 0) (home 1 0) (broken.cut ∷ []) broken.removal 0
      ([], ([], refl)) (record { known = ([], refl); there = refl; gone = refl }) (0, 53 ∷ [], refl) in
      omega arith;
  -- maps
  position_is_lost = λ h.
      let had : 0 < 4 = omega arith in
      let below : 0 < 1 = omega arith in
      let clash : 0 < 0 = (h (entries.Table 0 2 two_rows ∷ []) (entries.Remove 0 1 ∷ []) 0 (k0, ([], refl)) had (below, tt)).reached in
      omega arith;
  position_has_another_owner = λ h.
      let had : 0 < 4 = omega arith in
      let same = (h (entries.Table 0 2 broken.swapped_rows ∷ []) (broken.cut ∷ []) 0 (k0, ([], refl)) had (tt, tt)).same_owner in
      let clash : ◌≡◌ {A = ℕ} 0 1 = ap (λ found. option_map_or shard_of found 9) same in
      omega arith;
  -- consumers
  confirmed_and_not_covered = λ h. let clash : 1 ≤ 0 = h 0 in omega arith;
  confirmed_and_not_applied = λ h. let clash : 1 ≤ 0 = h 0 in omega arith;
  undo_to_another_state = λ h. let clash : ◌≡◌ {A = ℕ} 1 0 = ap first_state (h 0) in omega arith;
  another_output_held = λ h. let clash : ◌≡◌ {A = ℕ} 53 55 = ap (λ outputs. slice_index (get_or outputs 0 []) 0) (h 0) in omega arith;
}

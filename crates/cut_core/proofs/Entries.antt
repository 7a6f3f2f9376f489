-- What opening a granted window, and removing a shard, make of the state that is kept.
use Rattle.std.proofs.Common.{◌≡◌, ℕ, ◌+◌, ◌-◌, ◌*◌, ◌<◌, ◌≤◌, ◌==◌, true, not, List, [], ◌∷◌, ◌++◌, length, map, get_or, Option, Some, refl, sym, ap, ◌∙◌, subst, inl, inr, arith}
use Rattle.std.specs.Prelude.{nat_lt}
use Rattle.std.specs.List.{filter, list_all}
use Rattle.std.proofs.lemmas.Bool.{cases_Bool, cond-true, cond-false, eqb-true, ltb-true, lt-ltb, le-ltb, and_parts, or_cases, both_ways}
use Rattle.quota_table.specs.Rows.{is_row}
use Rattle.quota_table.specs.Tables.{quotas_of, quotas_before}
use Rattle.fix_ante.specs.declared.spots.Spot.{Spot}
use Rattle.fix_ante.specs.declared.spots.Owner.{Owner}
use Rattle.fix_ante.specs.Windows.{Window, rows_of, row_of, has_row, start_after, without_of}
use Rattle.fix_ante.specs.Layout.{place_of}
use Rattle.fix_ante.specs.Positions.{owner_among}
use Rattle.fix_ante.specs.Moves.{first_failed_of}
use Rattle.fix_ante.proofs.PositionLemmas.{place_of_owner, owner_of_round}
use Rattle.cut_core.specs.declared.agreed.Agreed.TheInside.{Inside}
use Rattle.cut_core.specs.Agreements.{Agreement, Gone, count_of, is_last_round}
use Rattle.cut_core.specs.Fold.{with_round, dropped_rows, opened, after_remove}
use Rattle.cut_core.specs.Soundness.{MayBeGrant, IsGrant, IsSound, HasFinalEnds}
use Rattle.cut_core.specs.inside.Kept.{agreement_of, IsAgreed, followed, local_end}
use Rattle.cut_core.proofs.Kept.{IsSound_opened, IsSound_remove}
use Rattle.cut_core.proofs.Ends.{ends_table, row_within, ends_round, local_end_round, local_end_sound, final_rows, HasFinalEnds_removed}
use Rattle.cut_core.proofs.Follows.{followed_opened, followed_removed}

-- ---- the granted window is opened

-- the rows that are dropped, with their ends by a table
abbrev pub dropped_by : List ℕ → Agreement → Window → List Gone
dropped_by ends a w = map (λ (s : Spot). record { shard = s.shard; end = get_or ends s.shard 0 }) (filter (λ (s : Spot). not (has_row s.shard w.spots)) a.current.spots)

-- what the opening of a granted window owes and gives
pub record Opens (a : Agreement) (w : Window) (rounds : ℕ) (ends : List ℕ) (gone : List Gone) : Type 0 where
  pub view : followed a rounds w gone ≡ record (opened (with_round a) w) { slots = a.slots + 1 }
  pub counts : (shard : ℕ) → shard < 6 → get_or ends shard 0 ≡ count_of shard (followed a rounds w gone).covered
  pub sound : IsSound (followed a rounds w gone)
  pub settled : HasFinalEnds (followed a rounds w gone)

pub opens : (a : Agreement) (w : Window) (rounds : ℕ) (ends : List ℕ) (gone : List Gone) → IsSound a → HasFinalEnds a → IsGrant a w → rounds ≡ a.current.rounds
    → a.rounds + 1 ≡ a.current.rounds
    → ((shard : ℕ) → shard < 6 → get_or ends shard 0 ≡ local_end a.current.spots rounds a.gone shard)
    → gone ≡ a.gone ++ dropped_by ends a w → Opens a w rounds ends gone
opens a w rounds ends gone is final grant all last table left =
    let b = with_round a in
    let after : Agreement = record (opened b w) { slots = a.slots + 1 } in
    let counts : (shard : ℕ) → shard < 6 → get_or ends shard 0 ≡ count_of shard b.covered = λ shard below.
    table shard below ∙ ap (λ n. local_end a.current.spots n a.gone shard) (all ∙ sym last) ∙ local_end_round a shard is final in
    let dropped : dropped_by ends a w ≡ dropped_rows b w =
    ends_table ends (λ s. count_of s b.covered) (λ (s : Spot). not (has_row s.shard w.spots)) a.current.spots is.window.table.within counts in
    let view : followed a rounds w gone ≡ after =
    ap (λ gs. followed a rounds w gs) (left ∙ ap (λ t. a.gone ++ t) dropped) ∙ ap (λ n. followed a n w (a.gone ++ dropped_rows b w)) all ∙ followed_opened a w last in
    let settled : HasFinalEnds after = final_rows a after (λ (s : Spot). not (has_row s.shard w.spots)) is final refl (ends_round a is final) in
    record {
      view = view;
      counts = λ shard below. counts shard below ∙ ap (λ (x : Agreement). count_of shard x.covered) (sym view);
      sound = subst IsSound (sym view) (IsSound_opened a w is grant last);
      settled = subst HasFinalEnds (sym view) settled;
    }

-- ---- a shard is removed

pub record Removes (a : Agreement) (shard : ℕ) (next : Window) (ends : List ℕ) (gone : List Gone) : Type 0 where
  pub view : followed a a.rounds next gone ≡ record (after_remove a shard) { slots = a.slots + 1 }
  pub counts : (s : ℕ) → s < 6 → get_or ends s 0 ≡ count_of s (followed a a.rounds next gone).covered
  pub sound : IsSound (followed a a.rounds next gone)
  pub settled : HasFinalEnds (followed a a.rounds next gone)

pub removes : (a : Agreement) (shard : ℕ) (next : Window) (ends : List ℕ) (gone : List Gone) → IsSound a → HasFinalEnds a → a.slots < 1000000
    → has_row shard a.current.spots ≡ true → 2 ≤ length a.current.spots → shard < 6
    → ((s : ℕ) → s < 6 → get_or ends s 0 ≡ local_end a.current.spots a.rounds a.gone s)
    → next ≡ without_of a.current (a.slots + 1) a.rounds shard
    → gone ≡ a.gone ++ record { shard = shard; end = get_or ends shard 0 } ∷ [] → Removes a shard next ends gone
removes a shard next ends gone is final few row another below table is_next left =
    let after : Agreement = record (after_remove a shard) { slots = a.slots + 1 } in
    let counts : (s : ℕ) → s < 6 → get_or ends s 0 ≡ count_of s a.covered = λ s h. table s h ∙ local_end_sound a s is final in
    let one : ℕ → List Gone = λ end. a.gone ++ record { shard = shard; end = end } ∷ [] in
    let view : followed a a.rounds next gone ≡ after =
    ap (λ w. followed a a.rounds w gone) is_next
    ∙ ap (followed a a.rounds (without_of a.current (a.slots + 1) a.rounds shard)) (left ∙ ap one (counts shard below))
    ∙ followed_removed a shard in
    record {
      view = view;
      counts = λ s h. counts s h ∙ ap (λ (x : Agreement). count_of s x.covered) (sym view);
      sound = subst IsSound (sym view) (IsSound_remove a shard is few row another);
      settled = subst HasFinalEnds (sym view) (HasFinalEnds_removed a after shard is final row refl refl);
    }

-- the shard's next local has the first place of a round that it can have
owner_among_first : (spots : List Spot) (round shard : ℕ) → list_all is_row (rows_of spots) ≡ true → has_row shard spots ≡ true
    → (quotas_before (rows_of spots) shard < quotas_of (rows_of spots)) × (owner_among spots round (quotas_before (rows_of spots) shard) ≡ Some (record { shard = shard; local = start_after spots round shard }))
owner_among_first [] round shard within row = absurd (cc)
owner_among_first (s ∷ ss) round shard within row =
    let parts = and_parts (is_row (row_of s)) (list_all is_row (rows_of ss)) within in
    let some = ltb-true 0 s.quota ((and_parts (nat_lt 0 s.quota) _ ((and_parts (nat_lt s.shard 6) _ parts.0).1)).0) in
    let owner : ℕ → ℕ → Option Owner = λ t l. Some (record { shard = t; local = l }) in
    elim (cases_Bool (s.shard == shard)) [
      | inl same ↦
          let before : quotas_before (rows_of (s ∷ ss)) shard ≡ 0 = cond-true _ _ _ same in
          let start : start_after (s ∷ ss) round shard ≡ s.start + round * s.quota = cond-true _ _ _ same in
          let first : owner_among (s ∷ ss) round 0 ≡ owner s.shard (s.start + round * s.quota + 0) = cond-true _ _ _ (lt-ltb 0 s.quota some) in
          let local : s.start + round * s.quota + 0 ≡ start_after (s ∷ ss) round shard = omega (arith, start) in
          (omega (arith, before), ap (owner_among (s ∷ ss) round) before ∙ (first ∙ (ap (λ t. owner t (s.start + round * s.quota + 0)) (eqb-true s.shard shard same) ∙ ap (owner shard) local)))
      | inr other ↦
          let before : quotas_before (rows_of (s ∷ ss)) shard ≡ s.quota + quotas_before (rows_of ss) shard = cond-false _ _ _ other in
          let start : start_after (s ∷ ss) round shard ≡ start_after ss round shard = cond-false _ _ _ other in
          let later : has_row shard ss ≡ true = elim (or_cases _ _ row) [ inl same ↦ absurd (both_ways _ other same) | inr found ↦ found ] in
          let rest = owner_among_first ss round shard parts.1 later in
          let at : s.quota + quotas_before (rows_of ss) shard - s.quota ≡ quotas_before (rows_of ss) shard = omega arith in
          let past : owner_among (s ∷ ss) round (s.quota + quotas_before (rows_of ss) shard) ≡ owner_among ss round (s.quota + quotas_before (rows_of ss) shard - s.quota) = cond-false _ _ _ (le-ltb (s.quota + quotas_before (rows_of ss) shard) s.quota (omega arith)) in
          (omega (arith, before, rest.0), ap (owner_among (s ∷ ss) round) before ∙ (past ∙ (ap (owner_among ss round) at ∙ (rest.1 ∙ ap (owner shard) (sym start)))))
    ]

-- the first local of a row that isn't covered has the first failed position
pub place_of_first_failed : (a : Agreement) (shard local : ℕ) → IsSound a → has_row shard a.current.spots ≡ true
    → local ≡ start_after a.current.spots a.rounds shard → place_of a.current shard local ≡ Some (first_failed_of a.current a.rounds shard)
place_of_first_failed a shard local is row at =
    let w = a.current in
    let first = owner_among_first w.spots a.rounds shard is.window.table.within row in
    let o : Owner = record { shard = shard; local = start_after w.spots a.rounds shard } in
    let owner = owner_of_round w a.rounds (quotas_before (rows_of w.spots) shard) is.short first.0 ∙ first.1 in
    ap (place_of w shard) at ∙ (place_of_owner w (first_failed_of w a.rounds shard) o is.window owner).2

-- ---- the same from the fields

pub opens_from : (i : Inside) (a : Agreement) (w : Window) (rounds : ℕ) (ends : List ℕ) (gone kept : List Gone) → agreement_of i ≡ a → IsAgreed i
    → i.granted ≡ Some w → is_last_round a ≡ true → rounds ≡ i.current.rounds
    → kept ≡ i.gone.items
    → ((shard : ℕ) → shard < 6 → get_or ends shard 0 ≡ local_end i.current.spots rounds kept shard)
    → gone ≡ i.gone.items ++ dropped_by ends (agreement_of i) w → Opens a w rounds ends gone
opens_from i a w rounds ends gone kept view is granted last all same table left =
    let b = agreement_of i in
    let is_last : is_last_round b ≡ true = subst (λ (x : Agreement). is_last_round x ≡ true) (sym view) last in
    let grant : IsGrant b w = subst (MayBeGrant b) granted is.sound.grant in
    subst (λ (x : Agreement). Opens x w rounds ends gone) view
    (opens b w rounds ends gone is.sound is.final grant all (eqb-true (i.rounds + 1) i.current.rounds is_last) (λ shard below. table shard below ∙ ap (λ gs. local_end i.current.spots rounds gs shard) same) left)

pub removes_from : (i : Inside) (a : Agreement) (shard : ℕ) (next : Window) (ends : List ℕ) (gone kept : List Gone) → agreement_of i ≡ a → IsAgreed i
    → a.slots < 1000000 → has_row shard a.current.spots ≡ true → 2 ≤ length a.current.spots
    → kept ≡ i.gone.items
    → ((s : ℕ) → s < 6 → get_or ends s 0 ≡ local_end i.current.spots i.rounds kept s)
    → next ≡ without_of i.current (i.slots + 1) i.rounds shard
    → gone ≡ i.gone.items ++ record { shard = shard; end = get_or ends shard 0 } ∷ [] → Removes a shard next ends gone
removes_from i a shard next ends gone kept view is few row another same table is_next left =
    let b = agreement_of i in
    let entries = ap (λ (x : Agreement). x.slots) view in
    let rows = ap (λ (x : Agreement). length x.current.spots) view in
    let its : has_row shard b.current.spots ≡ true = ap (λ (x : Agreement). has_row shard x.current.spots) view ∙ row in
    subst (λ (x : Agreement). Removes x shard next ends gone) view
    (removes b shard next ends gone is.sound is.final (omega arith) its (omega arith) (row_within b.current.spots shard is.sound.window.table.within its) (λ s below. table s below ∙ ap (λ gs. local_end i.current.spots i.rounds gs s) same) is_next left)

-- the position that the shard's end has in the window
pub place_of_end : (i : Inside) (a : Agreement) (shard local : ℕ) (ends : List ℕ) (kept : List Gone) → agreement_of i ≡ a → IsAgreed i
    → has_row shard a.current.spots ≡ true → kept ≡ i.gone.items
    → ((s : ℕ) → s < 6 → get_or ends s 0 ≡ local_end i.current.spots i.rounds kept s) → local ≡ get_or ends shard 0
    → place_of i.current shard local ≡ Some (first_failed_of a.current a.rounds shard)
place_of_end i a shard local ends kept view is row same table at =
    let b = agreement_of i in
    let its : has_row shard b.current.spots ≡ true = ap (λ (x : Agreement). has_row shard x.current.spots) view ∙ row in
    let below = row_within b.current.spots shard is.sound.window.table.within its in
    let counted : local ≡ count_of shard b.covered =
    at ∙ table shard below ∙ ap (λ gs. local_end i.current.spots i.rounds gs shard) same ∙ local_end_sound b shard is.sound is.final in
    let start : local ≡ start_after i.current.spots i.rounds shard = counted ∙ sym (is.sound.starts shard (is.sound.rows shard its)) in
    place_of_first_failed b shard local is.sound its start ∙ ap (λ (x : Agreement). Some (first_failed_of x.current x.rounds shard)) view

-- Every list of entries leaves a consistent state.
use Rattle.std.proofs.Common.{◌≡◌, ◌≢◌, ℕ, ◌+◌, ◌-◌, ◌*◌, ◌<◌, ◌≤◌, ◌==◌, Bool, true, false, not, List, [], ◌∷◌, ◌++◌, length, Option, Some, None, refl, sym, ap, ◌∙◌, inl, inr, arith, append-nil, append_assoc, length-append}
use Rattle.std.specs.Prelude.{nat_lt, if◌then◌else◌, IsSome, IfSome}
use Rattle.std.specs.List.{AllByRecursion}
use Rattle.std.proofs.lemmas.Bool.{cases_Bool, cases_lt, not-false, ltb-true, both_ways}
use Rattle.std.proofs.lemmas.Nat.{mul-le}
use Rattle.std.proofs.lemmas.Option.{none-some}
use Rattle.quota_table.specs.declared.rows.Row.{Row}
use Rattle.quota_table.specs.Rows.{IsTable}
use Rattle.quota_table.specs.declared.entry.Entry.{Entry}
use Rattle.quota_table.specs.declared.entry.Entry.TheVariants.{Remove}
use Rattle.quota_table.specs.Tables.{quotas_before}
use Rattle.fix_ante.specs.declared.spots.Owner.{Owner}
use Rattle.fix_ante.specs.Windows.{Window, rows_of, has_row, width_of, end_of, first_of}
use Rattle.fix_ante.specs.Locals.{quota_of}
use Rattle.fix_ante.specs.Moves.{IsFirstMoved, first_failed_of}
use Rattle.fix_ante.proofs.LayoutLemmas.{length_layout_of}
use Rattle.fix_ante.proofs.PositionLemmas.{owner_of_round}
use Rattle.fix_ante.proofs.MoveLemmas.{owner_among_own, owner_of_without_of}
use Rattle.cut_core.specs.declared.effects.Reason.TheVariants.{WrongWindow, NotARow, LastShard}
use Rattle.cut_core.specs.Agreements.{Agreement, agreement_from, count_of, is_gone}
use Rattle.cut_core.specs.Reasons.{fault_of}
use Rattle.cut_core.specs.Fold.{after_remove, after_entry, unless_void, applied, applied_all, fold_of, HasValidTable}
use Rattle.cut_core.specs.Map.{rest_of, granted_layout, map_of, mapped, leased, located, covered_locals}
use Rattle.cut_core.specs.Consistency.{Follows, MovesFrom, IsConsistent, IsContinuedBy}
use Rattle.cut_core.proofs.Counts.{quota_of_absent, start_after_absent, count_of_more}
use Rattle.cut_core.specs.Soundness.{IsSound, IsGrant, MayBeGrant}
use Rattle.cut_core.proofs.Kept.{gone_row, end_of_window, IsSound_first, IsSound_remove}
use Rattle.cut_core.proofs.Sound.{no_fault, IsSound_applied}
use Rattle.cut_core.proofs.Maps.{map_remove}
use Rattle.cut_core.proofs.Dense.{map_dense, slice_get_index_of, leased_mapped, mapped_leased}
use Rattle.cut_core.proofs.AgreeingLemmas.{located_applied_all}
use Rattle.cut_core.proofs.Finding.{dense_below}
use Rattle.cut_core.proofs.Indices.{index_of_some}
use Rattle.cut_core.proofs.Parts.{length_rest, some_value, mapped_covered, mapped_current, mapped_granted}
use Rattle.cut_core.proofs.GoneEnds.{IsEnded, gone_end_ended, IsEnded_applied, gone_end_applied_all, covered_locals_applied_all}

-- ---- the granted window

follows : (a : Agreement) (g : Option Window) → IsSound a → MayBeGrant a g → IfSome g (Follows a)
follows a None is grant = tt
follows a (Some w) is grant = record {
  grant = grant;
  reach = omega (arith, grant.base, is.reach, end_of_window a.current is.window, end_of_window w grant.window);
}

-- the map ends where the granted window does, or the current one where none is granted
granted_fits : (a : Agreement) (g : Option Window) → IsSound a → MayBeGrant a g → end_of a.current + length (granted_layout g) ≤ 393216 * a.slots + 786432
granted_fits a None is grant = omega (arith, is.reach, end_of_window a.current is.window)
granted_fits a (Some w) is grant =
    omega (arith, grant.base, is.reach, end_of_window a.current is.window, end_of_window w grant.window, length_layout_of w)

map_fits : (a : Agreement) → IsSound a → length (map_of a) ≤ 393216 * a.slots + 786432
map_fits a is =
    omega (
      arith,
      granted_fits a a.granted is is.grant,
      length_rest a is,
      length-append a.covered (rest_of a ++ granted_layout a.granted),
      length-append (rest_of a) (granted_layout a.granted),
    )

-- ---- leases

lease_below : (a : Agreement) (shard local : ℕ) → IsSound a → IsSome (leased a shard local) → local < count_of shard (map_of a)
lease_below a shard local is some =
    let at = some_value (leased a shard local) some in
    dense_below (map_of a) shard local at.0 (map_dense a shard is) (slice_get_index_of (map_of a) shard local at.0 at.1)

lease_some : (a : Agreement) (shard local : ℕ) → IsSound a → local < count_of shard (map_of a) → IsSome (leased a shard local)
lease_some a shard local is below =
    let at = index_of_some (map_of a) shard local (map_dense a shard is) below in
    rw at.1

-- ---- the positions of a gone shard

not_row : (a : Agreement) (w : Window) (shard : ℕ) → IsGrant a w → is_gone a shard ≡ true → has_row shard w.spots ≡ false
not_row a w shard grant gone =
    elim (cases_Bool (has_row shard w.spots)) [
      | inl row ↦ absurd (both_ways _ (grant.stays shard row) gone)
      | inr none ↦ none
    ]

granted_none : (a : Agreement) (g : Option Window) (owners : List Owner) (shard : ℕ) → MayBeGrant a g → is_gone a shard ≡ true
    → count_of shard (owners ++ granted_layout g) ≡ count_of shard owners
granted_none a None owners shard grant gone = ap (count_of shard) (append-nil owners)
granted_none a (Some w) owners shard grant gone =
    let absent : has_row shard w.spots ≡ false = not_row a w shard grant gone in
    let nothing : w.rounds * quota_of w.spots shard ≡ 0 = ap (λ n. w.rounds * n) (quota_of_absent w.spots shard absent) ∙ omega arith in
    omega (arith, count_of_more shard owners w.spots 0 w.rounds grant.window.table.distinct)

gone_none : (a : Agreement) (shard : ℕ) → IsSound a → is_gone a shard ≡ true → count_of shard (map_of a) ≡ covered_locals a shard
gone_none a shard is gone =
    let left = a.current.rounds - a.rounds in
    let absent = gone_row a is.rows shard gone in
    let nothing : left * quota_of a.current.spots shard ≡ 0 = ap (λ n. left * n) (quota_of_absent a.current.spots shard absent) ∙ omega arith in
    let rest : count_of shard (a.covered ++ rest_of a) ≡ count_of shard a.covered = omega (arith, count_of_more shard a.covered a.current.spots a.rounds left is.window.table.distinct) in
    ap (count_of shard) (sym (append_assoc a.covered (rest_of a) (granted_layout a.granted)))
    ∙ granted_none a a.granted (a.covered ++ rest_of a) shard is.grant gone
    ∙ rest

-- ---- removals

-- a removal leaves no window granted, and its shard in no position that isn't covered
removed_absent : (a : Agreement) (shard local p : ℕ) → IsSound (record (after_remove a shard) { slots = a.slots + 1 }) → length a.covered ≤ p
    → mapped (after_remove a shard) p ≢ Some (record { shard = shard; local = local })
removed_absent a shard local p is from e =
    let b = record (after_remove a shard) { slots = a.slots + 1 } in
    elim (cases_lt p (end_of b.current)) [
      | inl below ↦ owner_of_without_of a.current (a.slots + 1) a.rounds shard local p (sym (mapped_current b p is from below) ∙ e)
      | inr past ↦ none-some (record { shard = shard; local = local }) (sym (mapped_granted b p is past) ∙ e)
    ]

first_moved : (a : Agreement) (shard : ℕ) → IsSound a → a.slots < 1000000 → has_row shard a.current.spots ≡ true → 2 ≤ length a.current.spots
    → IsFirstMoved (mapped a) (mapped (after_remove a shard)) (first_failed_of a.current a.rounds shard)
first_moved a shard is few row another =
    let own = owner_among_own a.current.spots a.rounds shard is.window.table.within row in
    let first = first_failed_of a.current a.rounds shard in
    let width = width_of a.current in
    let within = mul-le (a.rounds + 1) width a.current.rounds width (omega (arith, is.short)) (omega arith) in
    let below : first < end_of a.current = omega (arith, own.0) in
    let from : length a.covered ≤ first = omega (arith, is.covered) in
    let was : mapped a first ≡ Some (record { shard = shard; local = own.1 }) =
    mapped_current a first is from below ∙ (owner_of_round a.current a.rounds (quotas_before (rows_of a.current.spots) shard) is.short own.0 ∙ own.2) in
    record {
      stays = λ p h. sym (map_remove a shard p is row h);
      moves = λ same. removed_absent a shard own.1 first (IsSound_remove a shard is few row another) from (sym same ∙ was);
    }

another_row : (b : Bool) → (if b then None else Some LastShard) ≡ None → b ≡ true
another_row true e = refl
another_row false e = absurd (cc)

-- a removal that fits
removal : (a : Agreement) (window shard : ℕ) → IsSound a → a.slots < 1000000 → fault_of a (Remove window shard) ≡ None
    → MovesFrom a (Remove window shard) (first_failed_of a.current a.rounds shard)
removal a window shard is few fits =
    let named = no_fault (not (window == a.current.number)) (WrongWindow a.current.number) _ fits in
    let row = no_fault (not (has_row shard a.current.spots)) (NotARow shard) _ named.1 in
    let another = ltb-true 1 (length a.current.spots) (another_row (nat_lt 1 (length a.current.spots)) row.1) in
    let moved = first_moved a shard is few (not-false (has_row shard a.current.spots) row.0) another in
    let now : (p : ℕ) → mapped (applied a (Remove window shard)) p ≡ mapped (after_remove a shard) p =
    λ p. ap (λ f. mapped (unless_void f a (after_entry a (Remove window shard))) p) fits in
    record {
      uncovered = omega (arith, is.covered);
      least = record {
        stays = λ p h. moved.stays p h ∙ sym (now p);
        moves = λ same. moved.moves (same ∙ now (first_failed_of a.current a.rounds shard));
      };
    }

-- ---- all of it

pub IsConsistent_sound : (a : Agreement) → IsSound a → IsEnded a → IsConsistent a
IsConsistent_sound a is ended = record {
  sound = is;
  reach = omega (arith, is.reach, end_of_window a.current is.window);
  granted = follows a a.granted is is.grant;
  fits = map_fits a is;
  rows_go_on = λ shard row. is.starts shard (is.rows shard row);
  others_have_none = λ shard none stays. sym (is.starts shard stays) ∙ start_after_absent a.current.spots a.rounds shard none;
  gone_have_ended = λ shard gone. gone_end_ended a shard ended gone;
  dense = λ shard. map_dense a shard is;
  leases = λ shard local. (lease_below a shard local is, lease_some a shard local is);
  places = λ shard local position. (mapped_leased a shard local position, leased_mapped a position (record { shard = shard; local = local }) is);
  gone_own_covered = λ shard gone. gone_none a shard is gone;
  removals = λ window shard few fits. removal a window shard is few fits;
}

kept : (a : Agreement) (entries : List Entry) → IsSound a → IsEnded a → a.slots + length entries ≤ 1000000 → AllByRecursion HasValidTable entries
    → IsSound (applied_all a entries) × IsEnded (applied_all a entries)
kept a [] is ended few valid = (is, ended)
kept a (entry ∷ entries) is ended few valid =
    kept (applied a entry) entries (IsSound_applied a entry is (omega arith) valid.0) (IsEnded_applied a entry is ended) (omega arith) valid.1

-- after any list of entries, from the first window on
pub IsConsistent_fold_of : (rounds : ℕ) (rows : List Row) (entries : List Entry) → 1 ≤ rounds → rounds ≤ 1024 → IsTable rows → length entries ≤ 1000000
    → AllByRecursion HasValidTable entries → IsConsistent (fold_of (first_of rounds rows) entries)
IsConsistent_fold_of rounds rows entries some most table few valid =
    let first = agreement_from (first_of rounds rows) in
    let all = kept first entries (IsSound_first rounds rows some most table) tt (omega arith) valid in
    IsConsistent_sound (applied_all first entries) all.0 all.1

-- what is covered stays as it is while entries are added
pub IsContinuedBy_applied_all : (a : Agreement) (entries : List Entry) → IsSound a → IsContinuedBy a (applied_all a entries)
IsContinuedBy_applied_all a entries is =
    let b = applied_all a entries in
    let covered : (p : ℕ) → p < length a.covered → (p < length b.covered) × (mapped b p ≡ mapped a p) =
    λ p h. (let there = located_applied_all a entries p h in (there.0, mapped_covered b p there.0 ∙ (there.1 ∙ sym (mapped_covered a p h)))) in
    record {
      locals_grow = λ shard. covered_locals_applied_all a entries shard;
      gone_stay = λ shard end e. gone_end_applied_all a entries shard end e;
      covered_agree = covered;
      later_is_above = λ shard local p past e.
          elim (cases_lt p (length a.covered)) [
            | inr above ↦ above
            | inl early ↦
                let there : located a p ≡ Some (record { shard = shard; local = local }) = sym (mapped_covered a p early) ∙ (sym ((covered p early).1) ∙ e) in
                let below = dense_below a.covered shard local p (is.dense shard) there in
                absurd (omega arith)
          ];
    }

-- A cut that a sequencer would propose fits after the entries that it knows, and no row lags by the reports that it keeps.
use Rattle.std.proofs.Common.{◌≡◌, ℕ, zero, suc, ◌+◌, ◌≤◌, ◌==◌, ◌&&◌, ◌||◌, not, Bool, true, false, nat_lt, if◌then◌else◌, List, [], ◌∷◌, length, map, get_or, Option, Some, None, refl, ap, subst, arith}
use Rattle.std.specs.Prelude.{is_some, slice_index, slice_get}
use Rattle.std.specs.List.{AllByRecursion, range_with_len}
use Rattle.std.specs.Option.{option_map, option_or}
use Rattle.std.proofs.lemmas.Bool.{false≢true, false_from_ne_true, and_parts, ltb-true, ltb-false, eqb-true, eq-eqb}
use Rattle.fix_ante.specs.declared.spots.Spot.{Spot}
use Rattle.fix_ante.specs.Windows.{Window, rows_of, round_end}
use Rattle.lag_fix.specs.declared.wanted.Wanted.{Wanted}
use Rattle.lag_fix.specs.Lags.{lagging_of}
use Rattle.cut_core.specs.declared.effects.Reason.{Reason}
use Rattle.cut_core.specs.Agreements.{Agreement, is_last_round}
use Rattle.cut_core.specs.Reasons.{grant_fault, fault_of}
use Rattle.node_rules.specs.Names.{Entry, Command}
use Rattle.node_rules.specs.Names.entries
use Rattle.node_rules.specs.Names.commands
use Rattle.node_rules.proofs.Lists.{on_test, all_weaken}
use Rattle.seq_node.specs.States.{SequencerState, lengths_of, acceptor_at}
use Rattle.seq_node.specs.Values.{lagging_rows, has_uncovered, entry_of, wished_value, renewal_is_due, renewal, cut_is_due, cut, is_touched, filler, value_for}
use Rattle.safety_logs.specs.Counting.{counted_by}
use Rattle.safety_logs.specs.Cuts.{IsGoodWhere}

-- ---- a shard's length is what it counts by the reports

mapped_range : (f : ℕ → ℕ) (from count i : ℕ) → get_or (map f (range_with_len from count)) i 0 ≤ f (from + i)
mapped_range f from zero i = omega arith
mapped_range f from (suc count) zero =
    let here : from ≡ from + 0 = omega arith in
    subst (λ (k : ℕ). f from ≤ f k) here (omega arith)
mapped_range f from (suc count) (suc i) =
    let at : from + 1 + i ≡ from + suc i = omega arith in
    subst (λ (k : ℕ). get_or (map f (range_with_len (from + 1) count)) i 0 ≤ f k) at (mapped_range f (from + 1) count i)

lengths_counted : (a : Agreement) (s : SequencerState) (shard : ℕ) → slice_index (lengths_of s) shard ≤ counted_by a s shard
lengths_counted a s shard =
    let at : 0 + shard ≡ shard = omega arith in
    subst (λ (k : ℕ). slice_index (lengths_of s) shard ≤ counted_by a s k) at (mapped_range (counted_by a s) 0 6 shard)

-- ---- no row lags

no_row : (test : Bool) (len end : ℕ) (wanted : Wanted) (rest : List Wanted) → nat_lt len end ≡ test
    → (length (if test then wanted ∷ rest else rest) == 0) ≡ true
    → (end ≤ len) × ((length rest == 0) ≡ true)
no_row true len end wanted rest short none = absurd (omega (arith, eqb-true (length (wanted ∷ rest)) 0 none))
no_row false len end wanted rest short none = (omega (arith, ltb-false len end short), none)

none_lag : (spots : List Spot) (round : ℕ) (lengths : List ℕ) → (length (lagging_of spots round lengths) == 0) ≡ true
    → AllByRecursion (λ (row : Spot). round_end row round ≤ slice_index lengths row.shard) spots
none_lag [] round lengths none = tt
none_lag (s ∷ spots) round lengths none =
    let row =
    no_row (nat_lt (slice_index lengths s.shard) (round_end s round)) (slice_index lengths s.shard) (round_end s round)
    (record { shard = s.shard; len = round_end s round }) (lagging_of spots round lengths) refl none in
    (row.0, none_lag spots round lengths row.1)

-- ---- a cut fits

unless_both : (b c : Bool) (x y : Reason) (rest : Option Reason) → b ≡ true → c ≡ true → rest ≡ None
    → (if not b then Some x else if not c then Some y else rest) ≡ None
unless_both true true x y rest p q none = none
unless_both true false x y rest p q none = absurd (false≢true q)
unless_both false c x y rest p q none = absurd (false≢true p)

grant_none : (last more : Bool) (granted : Option Window) → (more ≡ true → last ≡ false) → (more || is_some granted) ≡ true → grant_fault last granted ≡ None
grant_none last more (Some window) not_last due = refl
grant_none last true None not_last due = ap (λ (b : Bool). grant_fault b None) (not_last refl)
grant_none last false None not_last due = absurd (false≢true due)

is_not_last : (a : Agreement) → nat_lt (a.rounds + 1) a.current.rounds ≡ true → is_last_round a ≡ false
is_not_last a more =
    false_from_ne_true (a.rounds + 1 == a.current.rounds) (λ last. omega (arith, ltb-true _ _ more, eqb-true _ _ last))

cut_fits : (a : Agreement) → (nat_lt (a.rounds + 1) a.current.rounds || is_some a.granted) ≡ true
    → fault_of a (entries.Cut a.current.number a.rounds) ≡ None
cut_fits a due =
    unless_both (a.current.number == a.current.number) (a.rounds == a.rounds) _ _ (grant_fault (is_last_round a) a.granted)
    (eq-eqb a.current.number a.current.number refl) (eq-eqb a.rounds a.rounds refl)
    (grant_none (is_last_round a) (nat_lt (a.rounds + 1) a.current.rounds) a.granted (is_not_last a) due)

cut_good : (a : Agreement) (s : SequencerState) → cut_is_due a s ≡ true → IsGoodWhere (counted_by a s) a (entries.Cut a.current.number a.rounds)
cut_good a s due =
    let free : Bool = nat_lt (a.rounds + 1) a.current.rounds || is_some a.granted in
    let parts = and_parts (length (lagging_rows a s) == 0) (has_uncovered a s && free) due in (
      cut_fits a (and_parts (has_uncovered a s) free parts.1).1,
      all_weaken (λ (row : Spot). round_end row a.rounds ≤ slice_index (lengths_of s) row.shard)
          (λ (row : Spot). round_end row a.rounds ≤ counted_by a s row.shard) a.current.spots
          (λ row reaches. omega (arith, reaches, lengths_counted a s row.shard))
          (none_lag a.current.spots a.rounds (lengths_of s) parts.0),
    )

-- ---- a value that is there

module _ (a : Agreement) (s : SequencerState) where
  abbrev MayBeGood : Option Entry → Type 0
  MayBeGood None = Unit {0}
  MayBeGood (Some entry) = IsGoodWhere (counted_by a s) a entry

  first_good : (x y : Option Entry) → MayBeGood x → MayBeGood y → MayBeGood (option_or x y)
  first_good None y first second = second
  first_good (Some entry) y first second = first

  wish_good : (wish : Option Command) → MayBeGood (option_map (entry_of a.current.number) wish)
  wish_good None = tt
  wish_good (Some (commands.Table rounds rows)) = tt
  wish_good (Some (commands.Remove shard)) = tt

  renewal_good : MayBeGood (renewal a s)
  renewal_good =
      on_test MayBeGood (renewal_is_due a s) (Some (entries.Table a.current.number a.current.rounds (rows_of a.current.spots))) None (λ _. tt) (λ _. tt)

  due_good : MayBeGood (cut a s)
  due_good = on_test MayBeGood (cut_is_due a s) (Some (entries.Cut a.current.number a.rounds)) None (λ due. cut_good a s due) (λ _. tt)

  filler_good : MayBeGood (filler a.slots s)
  filler_good = on_test MayBeGood (is_touched (acceptor_at s a.slots)) (Some entries.Nothing) None (λ _. tt) (λ _. tt)

  pub value_good : (value : Entry) → value_for a s ≡ Some value → IsGoodWhere (counted_by a s) a value
  value_good value is =
      let last : Option Entry = option_or (cut a s) (filler a.slots s) in
      let later : Option Entry = option_or (renewal a s) last in
      subst MayBeGood is
      (first_good (wished_value a s) later (wish_good (slice_get s.wishes 0))
      (first_good (renewal a s) last renewal_good (first_good (cut a s) (filler a.slots s) due_good filler_good)))

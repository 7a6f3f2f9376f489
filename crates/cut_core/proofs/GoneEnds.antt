-- The ends of the shards that are gone.
use Rattle.std.proofs.Common.{◌≡◌, ℕ, ◌+◌, ◌≤◌, ◌==◌, true, false, not, List, [], ◌∷◌, ◌++◌, length, Option, Some, None, refl, sym, ap, ◌∙◌, inl, inr, arith, append-nil, length-append}
use Rattle.std.specs.Option.{option_or}
use Rattle.std.proofs.lemmas.Bool.{cases_Bool, cond-true, cond-false, both_ways}
use Rattle.quota_table.specs.declared.entry.Entry.{Entry}
use Rattle.quota_table.specs.declared.entry.Entry.TheVariants.{Nothing, Cut, Table, Remove}
use Rattle.fix_ante.specs.declared.spots.Spot.{Spot}
use Rattle.fix_ante.specs.Windows.{Window, has_row}
use Rattle.fix_ante.specs.Locals.{locals_of}
use Rattle.fix_ante.proofs.LocalLemmas.{locals_of_append}
use Rattle.cut_core.specs.declared.effects.Reason.{Reason}
use Rattle.cut_core.specs.Agreements.{Agreement, Gone, count_of, is_gone, is_last_round}
use Rattle.cut_core.specs.Reasons.{fault_of}
use Rattle.cut_core.specs.Fold.{with_round, opened, dropped_rows, open_granted, after_cut, after_remove, after_entry, unless_void, applied, applied_all}
use Rattle.cut_core.specs.Map.{gone_end, end_among, covered_locals}
use Rattle.cut_core.proofs.Counts.{quota_of_absent}
use Rattle.cut_core.specs.Soundness.{IsSound}
use Rattle.cut_core.proofs.Kept.{gone_row, count_of_round}
use Rattle.cut_core.proofs.Ends.{AreCounts, is_among, AreCounts_append, AreCounts_rows, AreCounts_stay, end_among_counted, end_among_none}
use Rattle.cut_core.proofs.Indices.{option_or_some}
use Rattle.cut_core.proofs.AgreeingLemmas.{covered_applied}

-- the end of each gone shard is one past its last covered local
abbrev pub IsEnded : Agreement → Type 0
IsEnded a = AreCounts (λ shard. count_of shard a.covered) a.gone

end_found : (count : ℕ → ℕ) (gs : List Gone) (shard : ℕ) (end : Option ℕ) → AreCounts count gs → is_among gs shard ≡ true → end_among gs shard ≡ end
    → end ≡ Some (count shard)
end_found count gs shard None counts gone e = absurd (both_ways _ (end_among_none gs shard e) gone)
end_found count gs shard (Some end) counts gone e = ap (λ n. Some n) (end_among_counted count gs shard end counts e)

-- so a gone shard has ended where its covered locals do
pub gone_end_ended : (a : Agreement) (shard : ℕ) → IsEnded a → is_gone a shard ≡ true → gone_end a shard ≡ Some (covered_locals a shard)
gone_end_ended a shard ended gone = end_found (λ n. count_of n a.covered) a.gone shard (gone_end a shard) ended gone refl

-- ---- one entry more

-- a gone shard has no local in a round
ended_round : (a : Agreement) → IsSound a → IsEnded a → IsEnded (with_round a)
ended_round a is ended =
    AreCounts_stay (λ shard. count_of shard a.covered) (λ shard. count_of shard (with_round a).covered) a.gone ended
    (λ shard gone.
    let none = quota_of_absent a.current.spots shard (gone_row a is.rows shard gone) in
    omega (arith, count_of_round a shard is, none))

ended_opened : (a : Agreement) (w : Window) → IsEnded a → IsEnded (opened a w)
ended_opened a w ended =
    AreCounts_append (λ shard. count_of shard a.covered) a.gone (dropped_rows a w) ended (AreCounts_rows (λ shard. count_of shard a.covered) (λ (s : Spot). not (has_row s.shard w.spots)) a.current.spots)

ended_open : (a : Agreement) (g : Option Window) → IsEnded a → IsEnded (open_granted a g)
ended_open a None ended = ended
ended_open a (Some w) ended = ended_opened a w ended

ended_cut : (a : Agreement) → IsSound a → IsEnded a → IsEnded (after_cut a)
ended_cut a is ended =
    let round = ended_round a is ended in
    elim (cases_Bool (is_last_round a)) [
      | inl last ↦ rw (cond-true (is_last_round a) (open_granted (with_round a) a.granted) (with_round a) last) (ended_open (with_round a) a.granted round)
      | inr more ↦ rw (cond-false (is_last_round a) (open_granted (with_round a) a.granted) (with_round a) more) round
    ]

ended_remove : (a : Agreement) (shard : ℕ) → IsEnded a → IsEnded (after_remove a shard)
ended_remove a shard ended =
    AreCounts_append (λ n. count_of n a.covered) a.gone (record { shard = shard; end = count_of shard a.covered } ∷ []) ended (refl, tt)

ended_fit : (a : Agreement) (entry : Entry) → IsSound a → IsEnded a → IsEnded (after_entry a entry)
ended_fit a Nothing is ended = ended
ended_fit a (Cut window round) is ended = ended_cut a is ended
ended_fit a (Table after rounds rows) is ended = ended
ended_fit a (Remove window shard) is ended = ended_remove a shard ended

ended_entry : (a : Agreement) (entry : Entry) (fault : Option Reason) → IsSound a → IsEnded a → IsEnded (unless_void fault a (after_entry a entry))
ended_entry a entry None is ended = ended_fit a entry is ended
ended_entry a entry (Some reason) is ended = ended

-- each entry keeps it
pub IsEnded_applied : (a : Agreement) (entry : Entry) → IsSound a → IsEnded a → IsEnded (applied a entry)
IsEnded_applied a entry is ended = ended_entry a entry (fault_of a entry) is ended

-- ---- ends in joined lists

end_here : (g : Gone) (gs : List Gone) (shard : ℕ) → (g.shard == shard) ≡ true → end_among (g ∷ gs) shard ≡ Some g.end
end_here g gs shard same = cond-true _ _ _ same

end_later : (g : Gone) (gs : List Gone) (shard : ℕ) → (g.shard == shard) ≡ false → end_among (g ∷ gs) shard ≡ end_among gs shard
end_later g gs shard other = cond-false _ _ _ other

-- in the first of two lists, or else in the second
pub end_among_append : (xs ys : List Gone) (shard : ℕ) → end_among (xs ++ ys) shard ≡ option_or (end_among xs shard) (end_among ys shard)
end_among_append [] ys shard = refl
end_among_append (g ∷ gs) ys shard =
    elim (cases_Bool (g.shard == shard)) [
      | inl same ↦ end_here g (gs ++ ys) shard same ∙ sym (option_or_some (end_among (g ∷ gs) shard) (end_among ys shard) g.end (end_here g gs shard same))
      | inr other ↦ end_later g (gs ++ ys) shard other ∙ end_among_append gs ys shard ∙ ap (λ o. option_or o (end_among ys shard)) (sym (end_later g gs shard other))
    ]

-- ---- what more entries leave

gone_open : (a : Agreement) (g : Option Window) → (more : List Gone) × ((open_granted a g).gone ≡ a.gone ++ more)
gone_open a None = ([], sym (append-nil a.gone))
gone_open a (Some w) = (dropped_rows a w, refl)

gone_fit : (a : Agreement) (entry : Entry) → (more : List Gone) × ((after_entry a entry).gone ≡ a.gone ++ more)
gone_fit a Nothing = ([], sym (append-nil a.gone))
gone_fit a (Cut window round) =
    let gone : Agreement → List Gone = λ x. x.gone in
    elim (cases_Bool (is_last_round a)) [
      | inl last ↦
          let grant = gone_open (with_round a) a.granted in
          (grant.0, ap gone (cond-true (is_last_round a) (open_granted (with_round a) a.granted) (with_round a) last) ∙ grant.1)
      | inr more ↦ ([], ap gone (cond-false (is_last_round a) (open_granted (with_round a) a.granted) (with_round a) more) ∙ sym (append-nil a.gone))
    ]
gone_fit a (Table after rounds rows) = ([], sym (append-nil a.gone))
gone_fit a (Remove window shard) = (record { shard = shard; end = covered_locals a shard } ∷ [], refl)

gone_entry : (a : Agreement) (entry : Entry) (fault : Option Reason) → (more : List Gone) × ((unless_void fault a (after_entry a entry)).gone ≡ a.gone ++ more)
gone_entry a entry None = gone_fit a entry
gone_entry a entry (Some reason) = ([], sym (append-nil a.gone))

-- the end of a gone shard stays
pub gone_end_applied_all : (a : Agreement) (entries : List Entry) (shard end : ℕ) → gone_end a shard ≡ Some end
    → gone_end (applied_all a entries) shard ≡ Some end
gone_end_applied_all a [] shard end e = e
gone_end_applied_all a (entry ∷ entries) shard end e =
    let more = gone_entry a entry (fault_of a entry) in
    let one : gone_end (applied a entry) shard ≡ Some end =
    ap (λ gs. end_among gs shard) more.1 ∙ (end_among_append a.gone more.0 shard ∙ option_or_some (end_among a.gone shard) (end_among more.0 shard) end e) in
    gone_end_applied_all (applied a entry) entries shard end one

-- covered locals don't become fewer
pub covered_locals_applied_all : (a : Agreement) (entries : List Entry) (shard : ℕ) → covered_locals a shard ≤ covered_locals (applied_all a entries) shard
covered_locals_applied_all a [] shard = omega arith
covered_locals_applied_all a (entry ∷ entries) shard =
    let more = covered_applied a entry in
    let count : covered_locals (applied a entry) shard ≡ covered_locals a shard + count_of shard more.0 =
    ap (count_of shard) more.1 ∙ (ap length (locals_of_append shard a.covered more.0) ∙ length-append (locals_of shard a.covered) (locals_of shard more.0)) in
    omega (arith, covered_locals_applied_all (applied a entry) entries shard)

-- Beginnings of what a node knows: of two of them one begins the other, and a shard that is gone with the one is gone with the longer.
use Rattle.std.proofs.Common.{◌≡◌, ◌⊎◌, ◌∙◌, ℕ, ◌==◌, true, false, Bool, List, [], ◌∷◌, ◌++◌, append_assoc, append-nil, length, is_some, Option, Some, None, refl, sym, ap, subst, inl, inr, arith}
use Rattle.std.specs.List.{list_any}
use Rattle.std.proofs.lemmas.Bool.{cases_Bool, cases_lt, cond-false, or_left, or_right, both_ways, false≢true}
use Rattle.cut_core.specs.declared.gone.Gone.{Gone}
use Rattle.cut_core.specs.Agreements.{Agreement, is_gone}
use Rattle.cut_core.specs.Map.{end_among, gone_end, covered_locals}
use Rattle.cut_core.specs.Consistency.{IsContinuedBy}
use Rattle.msg_wire.specs.Valid.{IsValidConfig}
use Rattle.net_model.specs.Pasts.{Past}
use Rattle.runs.specs.Names.{NodeId, Config, Entry}
use Rattle.runs.specs.Runs.{IsPastOf}
use Rattle.runs.specs.Known.{agreed_after, known_at}
use Rattle.runs.specs.Maps.{WasKnown}
use Rattle.runs.specs.Marks.{IsPrefix}
use Rattle.safety_frame.proofs.Known.{known_folds_hold}
use Rattle.safety_frame.proofs.Lists.{begins_on}
use Rattle.safety_logs.proofs.AgreedLists.{shorter}
use Rattle.safety_clients.proofs.Chains.{AreOrdered}

-- ---- lists that begin one list

pub both_begin : {A : Type 0} (xs ys whole : List A) → IsPrefix xs whole → IsPrefix ys whole → IsPrefix xs ys ⊎ IsPrefix ys xs
both_begin xs ys whole p q = elim (cases_lt (length xs) (length ys)) [
  | inl less ↦ inl (shorter xs ys whole p q (omega (arith, less)))
  | inr more ↦ inr (shorter ys xs whole q p more)
]

-- ---- gone, and ended

gone_among : (gs : List Gone) (shard end : ℕ) → end_among gs shard ≡ Some end → list_any (λ (g : Gone). g.shard == shard) gs ≡ true
gone_among [] shard end at = absurd (cc)
gone_among (g ∷ gs) shard end at = elim (cases_Bool (g.shard == shard)) [
  | inl same ↦ or_left _ _ same
  | inr other ↦ or_right _ _ (gone_among gs shard end (sym (cond-false _ _ _ other) ∙ at))
]

pub ended_gone : (a : Agreement) (shard end : ℕ) → gone_end a shard ≡ Some end → is_gone a shard ≡ true
ended_gone a shard end at = gone_among a.gone shard end at

some_end : (end : Option ℕ) → is_some end ≡ true → (n : ℕ) × (end ≡ Some n)
some_end None is = absurd (false≢true is)
some_end (Some n) is = (n, refl)

pub has_end_gone : (a : Agreement) (shard : ℕ) → is_some (gone_end a shard) ≡ true → is_gone a shard ≡ true
has_end_gone a shard is = let end = some_end (gone_end a shard) is in ended_gone a shard end.0 end.1

-- ---- beginnings of what a node knows

abbrev pub Front : Config → NodeId → Past → Type 0
Front cfg node past = (known : List Entry) × IsPrefix known (known_at cfg node past)

abbrev pub gone_in : (cfg : Config) (node : NodeId) (past : Past) → Front cfg node past → ℕ → Bool
gone_in cfg node past front shard = is_gone (agreed_after cfg front.0) shard

module _ (cfg : Config) (valid : IsValidConfig cfg) (past : Past) (run : IsPastOf cfg past) where
  pub ended : (known : List Entry) → WasKnown cfg past known → (shard : ℕ) → is_gone (agreed_after cfg known) shard ≡ true
      → gone_end (agreed_after cfg known) shard ≡ Some (covered_locals (agreed_after cfg known) shard)
  ended known was shard gone = ((known_folds_hold cfg past valid run).consistent known was).gone_have_ended shard gone

  pub continues : (one other : List Entry) → IsPrefix one other → WasKnown cfg past other → IsContinuedBy (agreed_after cfg one) (agreed_after cfg other)
  continues one other p was =
      subst (λ l. IsContinuedBy (agreed_after cfg one) (agreed_after cfg l)) (sym p.1)
      ((known_folds_hold cfg past valid run).continued one p.0 (subst (WasKnown cfg past) p.1 was))

  pub was_before : (one other : List Entry) → IsPrefix one other → WasKnown cfg past other → WasKnown cfg past one
  was_before one other p was = (was.0, begins_on one other (known_at cfg was.0 past) p was.1)

  pub gone_stays : (one other : List Entry) → IsPrefix one other → WasKnown cfg past other → (shard : ℕ) → is_gone (agreed_after cfg one) shard ≡ true
      → is_gone (agreed_after cfg other) shard ≡ true
  gone_stays one other p was shard gone =
      ended_gone (agreed_after cfg other) shard (covered_locals (agreed_after cfg one) shard)
      ((continues one other p was).gone_stay shard (covered_locals (agreed_after cfg one) shard) (ended one (was_before one other p was) shard gone))

  pub ordered : (node : NodeId) → AreOrdered (gone_in cfg node past)
  ordered node one other = elim (both_begin one.0 other.0 (known_at cfg node past) one.1 other.1) [
    | inl p ↦ inl (λ shard. gone_stays one.0 other.0 p (node, other.1) shard)
    | inr p ↦ inr (λ shard. gone_stays other.0 one.0 p (node, one.1) shard)
  ]

-- ---- the entry with which a shard goes

pub record GoesIn (cfg : Config) (shard : ℕ) (known : List Entry) : Type 0 where
  pub before : List Entry
  pub entry : Entry
  pub begins : IsPrefix (before ++ entry ∷ []) known
  pub there : is_gone (agreed_after cfg before) shard ≡ false
  pub gone : is_gone (agreed_after cfg (before ++ entry ∷ [])) shard ≡ true

goes_from : (cfg : Config) (shard : ℕ) (done rest : List Entry) → is_gone (agreed_after cfg done) shard ≡ false
    → is_gone (agreed_after cfg (done ++ rest)) shard ≡ true → GoesIn cfg shard (done ++ rest)
goes_from cfg shard done [] there gone =
    absurd (both_ways _ there (ap (λ l. is_gone (agreed_after cfg l) shard) (sym (append-nil done)) ∙ gone))
goes_from cfg shard done (entry ∷ rest) there gone =
    let split = append_assoc done (entry ∷ []) rest in
    elim (cases_Bool (is_gone (agreed_after cfg (done ++ entry ∷ [])) shard)) [
      | inl now ↦ record { before = done; entry = entry; begins = (rest, sym split); there = there; gone = now }
      | inr later ↦
          subst (GoesIn cfg shard) split
          (goes_from cfg shard (done ++ entry ∷ []) rest later (ap (λ l. is_gone (agreed_after cfg l) shard) split ∙ gone))
    ]

pub goes_in : (cfg : Config) (shard : ℕ) (known : List Entry) → is_gone (agreed_after cfg known) shard ≡ true → GoesIn cfg shard known
goes_in cfg shard known gone = goes_from cfg shard [] known refl gone

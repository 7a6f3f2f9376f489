-- One record at a position: of confirmations always, and of speculations but for a removal that one of the two nodes noticed before.
use Rattle.std.proofs.Common.{◌≡◌, ◌∙◌, ◌⊎◌, ℕ, List, [], ◌∷◌, ◌++◌, Contains, Some, None, refl, sym, ap, subst, inl, inr}
use Rattle.std.proofs.lemmas.List.Elements.{Contains-push, Contains-push_cases}
use Rattle.std.proofs.lemmas.Option.{same_Some}
use Rattle.msg_wire.specs.Valid.{IsValidConfig}
use Rattle.net_model.specs.Pasts.{Past, shown, marks_of}
use Rattle.runs.specs.Names.{NodeId, Config, Record, Mark}
use Rattle.runs.specs.Names.nodes
use Rattle.runs.specs.Names.marks
use Rattle.runs.specs.Marks.{EachAfter, IsConfirmed, IsSpeculated, notice_in, notices}
use Rattle.runs.specs.OneLog.{IsOneLog}
use Rattle.runs.specs.Runs.{IsPastOf}
use Rattle.runs.specs.Speculating.{HasNoticed, ShowsAfter, IsAsSpeculated, SpeculationHolds, SpeculatesAfter, SpeculationAgrees, OneRecordUnnoticed}
use Rattle.runs.proofs.Shown.{shown_by, each_at, prefix_holds}
use Rattle.runs.proofs.Unnoticed.{unnoticed_follows}
use Rattle.safety_frame.specs.EveryRun.{OfEveryRun}
use Rattle.safety_frame.specs.Gathered.{ToldMark, all_told}
use Rattle.safety_frame.proofs.Gathered.{mark_told}
use Rattle.safety_consumers.proofs.Told.{confirmations_are_counted}
use Rattle.safety_marks.specs.Removals.{firsts_of}
use Rattle.safety_marks.specs.MarkClauses.{StandsAt, IsCovered, MarkTells, MarksTell}
use Rattle.safety_marks.specs.Shown.{ShownAs, IsOther, IsShown}
use Rattle.safety_marks.proofs.Lists.{each_weaken, member_read}
use Rattle.safety_marks.proofs.Firsts.{HasFirst}
use Rattle.safety_marks.proofs.MarksTell.{marks_tell}
use Rattle.safety_marks.proofs.Notices.{IsNone}
use Rattle.safety_marks.proofs.Positions.{comparable, covered_one, one_or_removed}
use Rattle.safety_marks.proofs.Shown.{marks_are_shown_as}
use Rattle.safety_marks.proofs.TrueNotices.{notices_are_true}

notice_is : (mark : Mark) (first : ℕ) → notice_in mark ≡ Some first → mark ≡ marks.Notice first
notice_is (marks.Notice other) first e = ap marks.Notice (same_Some other first e)
notice_is _ first e = absurd (cc)

-- a notice up to a mark that is none stands before it
noticed_before : (earlier : List Mark) (mark : Mark) (first : ℕ) → IsNone mark → Contains (notices (earlier ++ mark ∷ [])) first
    → Contains earlier (marks.Notice first)
noticed_before earlier mark first none c =
    let found = member_read notice_in first (earlier ++ mark ∷ []) c in
    elim (Contains-push_cases earlier mark found.0 found.1) [
      | inl before ↦ subst (Contains earlier) (notice_is found.0 first found.2) before
      | inr same ↦ let both : None ≡ Some first = sym none ∙ (ap notice_in same ∙ found.2) in absurd (cc)
    ]

module _ (cfg : Config) (past : Past) where
  -- replicas and consumers alone show what isn't other
  shown_as : (node : NodeId) (earlier : List Mark) (mark : Mark) → (IsOther mark → ⊥) → IsShown cfg past node earlier mark → ShownAs cfg past node earlier mark
  shown_as (nodes.Seq number) earlier mark apart is = absurd (apart is)
  shown_as (nodes.Client number) earlier mark apart is = absurd (apart is)
  shown_as (nodes.Shard shard side) earlier mark apart is = is
  shown_as (nodes.Consumer number) earlier mark apart is = is

  -- some node marked the record at the position, by what it knew then
  pub record IsMarked (position : ℕ) (rec : Record) : Type 0 where
    pub told : ToldMark
    pub there : Contains (all_told cfg past) told
    pub stands : StandsAt cfg past told.known position rec

  -- a node did after these marks of its own, and had noticed each removal that it knew
  pub record IsMarkedAfter (earlier : List Mark) (position : ℕ) (rec : Record) : Type 0 where
    pub mark : IsMarked position rec
    pub noticed : (first : ℕ) → Contains (firsts_of cfg mark.told.known) first → Contains earlier (marks.Notice first)

  module _ (tell : MarksTell cfg past) where
    told_of : (mark : Mark) → Contains (shown past) mark → (x : ToldMark) × Contains (all_told cfg past) x × (x.mark ≡ mark)
    told_of mark c =
        let by = shown_by past mark c in
        let there = prefix_holds (by.1 ++ mark ∷ []) (marks_of by.0 past) mark by.2 (Contains-push by.1 mark) in
        let told = mark_told cfg by.0 mark past there in
        (record { node = by.0; known = told.0; mark = mark }, told.1, refl)

    abbrev after_marks : (node : NodeId) (earlier : List Mark) (mark : Mark) (position : ℕ) (rec : Record) → IsNone mark
        → (is : ShownAs cfg past node earlier mark) → StandsAt cfg past is.known position rec → IsMarkedAfter earlier position rec
    after_marks node earlier mark position rec none is stands = record {
      mark = record { told = record { node = node; known = is.known; mark = mark }; there = is.told; stands = stands };
      noticed = λ first c. noticed_before earlier mark first none (subst (λ (firsts : List ℕ). Contains firsts first) (sym is.noticed) c);
    }

    confirmed_of : (position : ℕ) (rec : Record) → IsConfirmed past position rec → (is : IsMarked position rec) × IsCovered cfg is.told.known position
    confirmed_of position rec c =
        let told = told_of (marks.Confirm position rec) c in
        let tells = subst (MarkTells cfg past told.0.known) told.2 (tell told.0 told.1) in
        (record { told = told.0; there = told.1; stands = tells.owned }, tells.covered)

    speculated_of : (position : ℕ) (rec : Record) → IsSpeculated past position rec → IsMarked position rec
    speculated_of position rec (inl applied) =
        let told = told_of (marks.Apply position rec) applied in
        record { told = told.0; there = told.1; stands = subst (MarkTells cfg past told.0.known) told.2 (tell told.0 told.1) }
    speculated_of position rec (inr promised) =
        let told = told_of (marks.Promise position rec) promised in
        record { told = told.0; there = told.1; stands = subst (MarkTells cfg past told.0.known) told.2 (tell told.0 told.1) }

    module _ (valid : IsValidConfig cfg) (run : IsPastOf cfg past) where
      -- ---- two confirmations

      pub one_confirmed : (position : ℕ) (rec other : Record) → IsConfirmed past position rec → IsConfirmed past position other → rec ≡ other
      one_confirmed position rec other one another =
          let x = confirmed_of position rec one in
          let y = confirmed_of position other another in
          elim (comparable cfg past valid run x.0.told y.0.told x.0.there y.0.there) [
            | inl p ↦ covered_one cfg past valid run x.0.told y.0.told y.0.there p position rec other x.0.stands y.0.stands x.1
            | inr p ↦ sym (covered_one cfg past valid run y.0.told x.0.told x.0.there p position other rec y.0.stands x.0.stands y.1)
          ]

      -- ---- a confirmation and a speculation

      noticed_one : (earlier : List Mark) (position : ℕ) (rec : Record) (is : IsMarkedAfter earlier position rec)
          → HasFirst (firsts_of cfg is.mark.told.known) position → HasNoticed earlier position
      noticed_one earlier position rec is has = (has.0, has.1, is.noticed has.0 has.2)

      confirmed_so : (earlier : List Mark) (position : ℕ) (rec other : Record) (is : IsMarkedAfter earlier position rec)
          → IsCovered cfg is.mark.told.known position → IsMarked position other → (other ≡ rec) ⊎ HasNoticed earlier position
      confirmed_so earlier position rec other is covered was =
          let x = is.mark in
          elim (comparable cfg past valid run was.told x.told was.there x.there) [
            | inl p ↦ elim (one_or_removed cfg past valid run was.told x.told x.there p position other rec was.stands x.stands) [
              | inl same ↦ inl same
              | inr has ↦ inr (noticed_one earlier position rec is has)
            ]
            | inr p ↦ inl (sym (covered_one cfg past valid run x.told was.told was.there p position rec other x.stands was.stands covered))
          ]

      as_speculated : (node : NodeId) (earlier : List Mark) (mark : Mark) → IsShown cfg past node earlier mark → IsAsSpeculated past earlier mark
      as_speculated node earlier (marks.Confirm position rec) is =
          let shown = shown_as node earlier (marks.Confirm position rec) (λ other. other) is in
          let tells = tell (record { node = node; known = shown.known; mark = marks.Confirm position rec }) shown.told in
          let after = after_marks node earlier (marks.Confirm position rec) position rec refl shown tells.owned in
          λ other speculated. confirmed_so earlier position rec other after tells.covered (speculated_of position other speculated)
      as_speculated node earlier _ is = tt

      pub all_as_speculated : (node : NodeId) → EachAfter (IsAsSpeculated past) [] (marks_of node past)
      all_as_speculated node =
          each_weaken (IsShown cfg past node) (IsAsSpeculated past) [] (marks_of node past) (as_speculated node) (marks_are_shown_as cfg past valid run node)

      -- ---- two speculations

      shows_after : (node : NodeId) (earlier : List Mark) (mark : Mark) → (IsOther mark → ⊥) → ShowsAfter past node earlier mark
          → ShownAs cfg past node earlier mark
      shows_after node earlier mark apart after =
          let each = marks_are_shown_as cfg past valid run node in
          shown_as node earlier mark apart (each_at (IsShown cfg past node) earlier (marks_of node past) mark after each)

      speculates : (node : NodeId) (earlier : List Mark) (position : ℕ) (rec : Record) → SpeculatesAfter past node earlier position rec
          → IsMarkedAfter earlier position rec
      speculates node earlier position rec (inl applied) =
          let mark : Mark = marks.Apply position rec in
          let is = shows_after node earlier mark (λ other. other) applied in
          after_marks node earlier mark position rec refl is (tell (record { node = node; known = is.known; mark = mark }) is.told)
      speculates node earlier position rec (inr promised) =
          let mark : Mark = marks.Promise position rec in
          let is = shows_after node earlier mark (λ other. other) promised in
          after_marks node earlier mark position rec refl is (tell (record { node = node; known = is.known; mark = mark }) is.told)

      pub two_agree : SpeculationAgrees past
      two_agree node another earlier before position rec other one two =
          let x = speculates node earlier position rec one in
          let y = speculates another before position other two in
          elim (comparable cfg past valid run x.mark.told y.mark.told x.mark.there y.mark.there) [
            | inl p ↦ elim (one_or_removed cfg past valid run x.mark.told y.mark.told y.mark.there p position rec other x.mark.stands y.mark.stands) [
              | inl same ↦ inl same
              | inr has ↦ inr (inr (noticed_one before position other y has))
            ]
            | inr p ↦ elim (one_or_removed cfg past valid run y.mark.told x.mark.told x.mark.there p position other rec y.mark.stands x.mark.stands) [
              | inl same ↦ inl (sym same)
              | inr has ↦ inr (inl (noticed_one earlier position rec x has))
            ]
          ]

-- ---- of every run

pub one_log : OfEveryRun (λ cfg past. IsOneLog past)
one_log cfg past valid run = record {
  one_record = one_confirmed cfg past (marks_tell cfg past valid run) valid run;
  no_gap = confirmations_are_counted cfg past valid run;
}

pub speculation_holds : OfEveryRun SpeculationHolds
speculation_holds cfg past valid run = record {
  as_speculated = all_as_speculated cfg past (marks_tell cfg past valid run) valid run;
  notices_are_true = notices_are_true cfg past valid run;
}

pub speculation_agrees : OfEveryRun (λ cfg past. SpeculationAgrees past)
speculation_agrees cfg past valid run = two_agree cfg past (marks_tell cfg past valid run) valid run

pub one_record_unnoticed : OfEveryRun (λ cfg past. OneRecordUnnoticed past)
one_record_unnoticed cfg past valid run =
    unnoticed_follows cfg past (one_log cfg past valid run) (speculation_holds cfg past valid run) (speculation_agrees cfg past valid run)

-- Where no node noticed a removal, no position has two records: what the laws of one log and of speculation give together.
use Rattle.std.proofs.Common.{◌≡◌, ℕ, List, [], ◌∷◌, ◌++◌, sym, inl, inr}
use Rattle.std.proofs.lemmas.List.Elements.{Contains-append_left}
use Rattle.net_model.specs.Pasts.{Past, marks_of}
use Rattle.runs.specs.Names.{NodeId, Config, Record, Mark}
use Rattle.runs.specs.Names.marks
use Rattle.runs.specs.Marks.{IsSpeculated, IsConfirmed}
use Rattle.runs.specs.Speculating.{HasNoticed, ShowsAfter, IsAsSpeculated, SpeculationHolds, SpeculatesAfter, SpeculationAgrees, IsUnnoticed, UnnoticedFollows}
use Rattle.runs.proofs.Shown.{prefix_holds, each_at, marks_are_shown, shown_by}

-- a speculation stands among the marks of a node
speculated_by : (past : Past) (position : ℕ) (rec : Record) → IsSpeculated past position rec
    → (node : NodeId) × (earlier : List Mark) × SpeculatesAfter past node earlier position rec
speculated_by past position rec (inl applied) = let by = shown_by past (marks.Apply position rec) applied in (by.0, by.1, inl by.2)
speculated_by past position rec (inr promised) = let by = shown_by past (marks.Promise position rec) promised in (by.0, by.1, inr by.2)

-- nobody noticed before a mark
module _ (past : Past) (unnoticed : IsUnnoticed past) where
  none_before : (node : NodeId) (earlier : List Mark) (mark : Mark) (position : ℕ)
      → ShowsAfter past node earlier mark → HasNoticed earlier position → ⊥
  none_before node earlier mark position after n =
      unnoticed n.0 (marks_are_shown node past (marks.Notice n.0)
      (prefix_holds (earlier ++ mark ∷ []) (marks_of node past) (marks.Notice n.0) after
      (Contains-append_left earlier (mark ∷ []) (marks.Notice n.0) n.2)))

  none_noticed : (node : NodeId) (earlier : List Mark) (position : ℕ) (rec : Record)
      → SpeculatesAfter past node earlier position rec → HasNoticed earlier position → ⊥
  none_noticed node earlier position rec (inl applied) = none_before node earlier (marks.Apply position rec) position applied
  none_noticed node earlier position rec (inr promised) = none_before node earlier (marks.Promise position rec) position promised

  speculated_twice : SpeculationAgrees past → (position : ℕ) (rec other : Record)
      → IsSpeculated past position rec → IsSpeculated past position other → rec ≡ other
  speculated_twice agrees position rec other one another =
      let x = speculated_by past position rec one in
      let y = speculated_by past position other another in
      elim (agrees x.0 y.0 x.1 y.1 position rec other x.2 y.2) [
        | inl same ↦ same
        | inr noticed ↦ elim noticed [
          | inl first ↦ absurd (none_noticed x.0 x.1 position rec x.2 first)
          | inr second ↦ absurd (none_noticed y.0 y.1 position other y.2 second)
        ]
      ]

  speculated_confirmed : (cfg : Config) → SpeculationHolds cfg past → (position : ℕ) (rec other : Record)
      → IsSpeculated past position rec → IsConfirmed past position other → rec ≡ other
  speculated_confirmed cfg holds position rec other speculated confirmed =
      let by = shown_by past (marks.Confirm position other) confirmed in
      elim (each_at (IsAsSpeculated past) by.1 (marks_of by.0 past) (marks.Confirm position other) by.2 (holds.as_speculated by.0) rec speculated) [
        | inl same ↦ same
        | inr noticed ↦ absurd (none_before by.0 by.1 (marks.Confirm position other) position by.2 noticed)
      ]

pub unnoticed_follows : UnnoticedFollows
unnoticed_follows cfg past one holds agrees unnoticed position rec other (inl x) (inl y) = speculated_twice past unnoticed agrees position rec other x y
unnoticed_follows cfg past one holds agrees unnoticed position rec other (inl x) (inr y) = speculated_confirmed past unnoticed cfg holds position rec other x y
unnoticed_follows cfg past one holds agrees unnoticed position rec other (inr x) (inl y) = sym (speculated_confirmed past unnoticed cfg holds position other rec y x)
unnoticed_follows cfg past one holds agrees unnoticed position rec other (inr x) (inr y) = one.one_record position rec other x y

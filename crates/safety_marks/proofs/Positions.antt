-- Two records that stand at a position by what two nodes knew: they are one, but for a removal from there or below that one of the two knew.
use Rattle.std.proofs.Common.{◌≡◌, ◌∙◌, ◌⊎◌, ℕ, List, ◌++◌, Contains, sym, ap, subst, inl, inr}
use Rattle.std.specs.List.{slice_get}
use Rattle.std.proofs.lemmas.List.Elements.{Contains-append_right}
use Rattle.std.proofs.lemmas.Option.{same_Some, slice_get_within}
use Rattle.fix_ante.specs.declared.spots.Owner.{Owner}
use Rattle.cut_core.specs.Agreements.{agreement_from}
use Rattle.cut_core.specs.Map.{map_of, mapped}
use Rattle.msg_wire.specs.Valid.{IsValidConfig}
use Rattle.net_model.specs.Pasts.{Past}
use Rattle.node_rules.specs.Nodes.{first_window}
use Rattle.runs.specs.Names.{Config, Entry, Record}
use Rattle.runs.specs.Known.{agreed_after, known_at}
use Rattle.runs.specs.Maps.{WasKnown}
use Rattle.runs.specs.Marks.{IsPrefix}
use Rattle.runs.specs.Runs.{IsPastOf}
use Rattle.safety_frame.specs.Gathered.{ToldMark, all_told}
use Rattle.safety_frame.proofs.Gathered.{told_known}
use Rattle.safety_frame.proofs.Known.{known_folds_hold}
use Rattle.safety_frame.proofs.Lists.{begins_on}
use Rattle.safety_logs.specs.Counting.{held_log}
use Rattle.safety_agreement.proofs.KnownLists.{known_is_chosen}
use Rattle.safety_marks.specs.Removals.{firsts_from, firsts_of}
use Rattle.safety_marks.specs.MarkClauses.{StandsAt, IsCovered}
use Rattle.safety_marks.proofs.Lists.{one_begins}
use Rattle.safety_marks.proofs.Firsts.{firsts_more, HasFirst, below_or_first}

module _ (cfg : Config) (past : Past) where
  -- one owner has one record
  owners_one : (known more : List Entry) (position : ℕ) (rec other : Record) → StandsAt cfg past known position rec → StandsAt cfg past more position other
      → mapped (agreed_after cfg more) position ≡ mapped (agreed_after cfg known) position → rec ≡ other
  owners_one known more position rec other a b agree =
      let same : a.owner ≡ b.owner = same_Some a.owner b.owner (sym a.there ∙ (sym agree ∙ b.there)) in
      same_Some rec other (sym a.stands ∙ (ap (λ (o : Owner). slice_get (held_log cfg o.shard past) o.local) same ∙ b.stands))

  module _ (valid : IsValidConfig cfg) (run : IsPastOf cfg past) where
    covered_agrees : (known more : List Entry) (position : ℕ) (rec other : Record) → WasKnown cfg past (known ++ more) → IsCovered cfg known position
        → StandsAt cfg past known position rec → StandsAt cfg past (known ++ more) position other → rec ≡ other
    covered_agrees known more position rec other was covered a b =
        let goes_on = (known_folds_hold cfg past valid run).continued known more was in
        owners_one known (known ++ more) position rec other a b (goes_on.covered_agree position covered).1

    map_agrees : (known more : List Entry) (position : ℕ) (rec other : Record) → WasKnown cfg past (known ++ more)
        → StandsAt cfg past known position rec → StandsAt cfg past (known ++ more) position other
        → (rec ≡ other) ⊎ HasFirst (firsts_of cfg (known ++ more)) position
    map_agrees known more position rec other was a b =
        elim (below_or_first (agreed_after cfg known) more position) [
          | inl below ↦
              let inside = slice_get_within (map_of (agreed_after cfg known)) position a.owner a.there in
              let agree = (known_folds_hold cfg past valid run).maps_agree known more position was inside below in
              inl (owners_one known (known ++ more) position rec other a b agree.same_owner)
          | inr has ↦
              let later : List ℕ = firsts_from (agreed_after cfg known) more in
              let all = firsts_more (agreement_from (first_window cfg)) known more in
              inr (has.0, has.1, subst (λ (firsts : List ℕ). Contains firsts has.0) (sym all) (Contains-append_right (firsts_of cfg known) later has.0 has.2))
        ]

    -- ---- by marks that were told

    was_known : (x y : ToldMark) → Contains (all_told cfg past) y → (p : IsPrefix x.known y.known) → WasKnown cfg past (x.known ++ p.0)
    was_known x y there p = (y.node, subst (λ (l : List Entry). IsPrefix l (known_at cfg y.node past)) p.1 (told_known cfg y past there))

    pub comparable : (x y : ToldMark) → Contains (all_told cfg past) x → Contains (all_told cfg past) y → IsPrefix x.known y.known ⊎ IsPrefix y.known x.known
    comparable x y here there =
        let list = (known_is_chosen cfg past valid run).one_list in
        one_begins x.known y.known list.0 (begins_on x.known (known_at cfg x.node past) list.0 (told_known cfg x past here) (list.1.begins x.node))
        (begins_on y.known (known_at cfg y.node past) list.0 (told_known cfg y past there) (list.1.begins y.node))

    module _ (x y : ToldMark) (there : Contains (all_told cfg past) y) (p : IsPrefix x.known y.known) (position : ℕ) (rec other : Record)
        (a : StandsAt cfg past x.known position rec) (b : StandsAt cfg past y.known position other) where
      abbrev later : StandsAt cfg past (x.known ++ p.0) position other
      later = subst (λ (l : List Entry). StandsAt cfg past l position other) p.1 b

      pub covered_one : IsCovered cfg x.known position → rec ≡ other
      covered_one covered = covered_agrees x.known p.0 position rec other (was_known x y there p) covered a later

      pub one_or_removed : (rec ≡ other) ⊎ HasFirst (firsts_of cfg y.known) position
      one_or_removed =
          subst (λ (l : List Entry). (rec ≡ other) ⊎ HasFirst (firsts_of cfg l) position) (sym p.1)
          (map_agrees x.known p.0 position rec other (was_known x y there p) a later)

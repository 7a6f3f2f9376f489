-- What is kept beside the known entries is what they agree on, and their map has an owner exactly within it.
use Rattle.std.proofs.Common.{◌≡◌, ℕ, ◌+◌, ◌<◌, ◌↔◌, List, [], ◌∷◌, ◌++◌, length, Option, Some, None, refl, sym, ap, ◌∙◌, subst, inl, inr, arith}
use Rattle.std.specs.Prelude.{IsSome, IfSome}
use Rattle.std.specs.Option.{option_or}
use Rattle.std.proofs.lemmas.Option.{slice_get_cases}
use Rattle.quota_table.specs.declared.entry.Entry.{Entry}
use Rattle.fix_ante.specs.declared.spots.Owner.{Owner}
use Rattle.fix_ante.specs.Windows.{Window}
use Rattle.fix_ante.specs.Layout.{owner_of}
use Rattle.cut_core.specs.Agreements.{Agreement, agreement_from}
use Rattle.cut_core.specs.Fold.{applied, applied_all, fold_of, HasValidTable}
use Rattle.cut_core.specs.Map.{located, mapped, map_of, leased}
use Rattle.cut_core.specs.Soundness.{IsSound}
use Rattle.cut_core.specs.Consistency.{IsConsistent}
use Rattle.cut_core.proofs.Sound.{IsSound_applied}
use Rattle.cut_core.proofs.AgreeingLemmas.{slots_applied_all, applied_all_push}
use Rattle.cut_core.proofs.Indices.{option_or_some, option_or_none}
use Rattle.cut_core.proofs.Parts.{owner_in_grant, mapped_parts}
use Rattle.cut_core.proofs.Numbers.{IsNumbered, IsNumbered_applied_all}
use Rattle.cut_core.proofs.GoneEnds.{IsEnded, IsEnded_applied}
use Rattle.cut_core.proofs.Consistent.{IsConsistent_sound}
use Rattle.lease_window.specs.declared.known.Known.TheInside.{Inside}
use Rattle.lease_window.specs.Known.{KnownEntries, agreed_of}
use Rattle.lease_window.specs.inside.Kept.{known_of, IsKnown}
use Rattle.lease_window.proofs.LeaseLemmas.{each_some}

-- ---- the agreed state that is kept is that of the entries

pub known_agreed : (i : Inside) (k : KnownEntries) → known_of i ≡ k → IsKnown i → agreed_of k ≡ i.agreed
known_agreed i k e is = ap agreed_of (sym e) ∙ sym is.agreed

pub known_slots : (i : Inside) → IsKnown i → i.agreed.slots ≡ length i.entries.items
known_slots i is = ap (λ (a : Agreement). a.slots) is.agreed ∙ slots_applied_all (agreement_from i.first) i.entries.items ∙ omega arith

pub known_numbered : (i : Inside) → IsKnown i → IsNumbered i.agreed
known_numbered i is = subst IsNumbered (sym is.agreed) (IsNumbered_applied_all (agreement_from i.first) i.entries.items refl)

pub known_consistent : (i : Inside) → IsKnown i → IsConsistent i.agreed
known_consistent i is = IsConsistent_sound i.agreed is.sound is.ended

-- ---- one entry more

-- what is kept after it
pub IsKnown_applied : (i j : Inside) (entry : Entry) → IsKnown i → i.agreed.slots < 1000000 → HasValidTable entry → j.first ≡ i.first
    → j.entries.items ≡ i.entries.items ++ entry ∷ [] → j.agreed ≡ applied i.agreed entry → IsKnown j
IsKnown_applied i j entry is few valid first entries agreed =
    let slots : j.agreed.slots ≡ i.agreed.slots + 1 = ap (λ (a : Agreement). a.slots) agreed in
    record {
      agreed =
          agreed
          ∙ ap (λ a. applied a entry) is.agreed
          ∙ sym (applied_all_push (agreement_from i.first) i.entries.items entry)
          ∙ ap (fold_of i.first) (sym entries)
          ∙ ap (λ w. fold_of w j.entries.items) (sym first);
      few = omega arith;
      sound = subst IsSound (sym agreed) (IsSound_applied i.agreed entry is.sound few valid);
      ended = subst IsEnded (sym agreed) (IsEnded_applied i.agreed entry is.sound is.ended);
    }

-- ---- owners

pub owner_current : (a : Agreement) (w : Window) (p : ℕ) (o : Owner) → IsSound a → located a p ≡ None → w ≡ a.current → owner_of w p ≡ Some o
    → mapped a p ≡ Some o
owner_current a w p o is none current here =
    let later = option_or (owner_of a.current p) (owner_in_grant a.granted p) in
    mapped_parts a p is
    ∙ option_or_none (located a p) later none
    ∙ option_or_some (owner_of a.current p) (owner_in_grant a.granted p) o (ap (λ (v : Window). owner_of v p) (sym current) ∙ here)

pub owner_granted : (a : Agreement) (w : Window) (g : Option Window) (p : ℕ) → IsSound a → located a p ≡ None → w ≡ a.current → owner_of w p ≡ None
    → a.granted ≡ g → mapped a p ≡ owner_in_grant g p
owner_granted a w g p is none current not_here granted =
    let later = option_or (owner_of a.current p) (owner_in_grant a.granted p) in
    mapped_parts a p is
    ∙ option_or_none (located a p) later none
    ∙ option_or_none (owner_of a.current p) (owner_in_grant a.granted p) (ap (λ (v : Window). owner_of v p) (sym current) ∙ not_here)
    ∙ ap (λ h. owner_in_grant h p) granted

none_some : {X : Type 0} (o : Option X) → o ≡ None → IsSome o → ⊥
none_some None e some = absurd (cc)
none_some (Some x) e some = absurd (cc)

-- a position of the map, and no other, has an owner
pub mapped_within : (a : Agreement) (p : ℕ) → IsSome (mapped a p) ↔ (p < length (map_of a))
mapped_within a p =
    elim ((slice_get_cases (map_of a) p).1) [
      | inl there ↦ (λ _. there.1, λ _. rw there.2)
      | inr past ↦ (λ some. absurd (none_some (mapped a p) past.1 some), λ below. absurd (omega (arith, past.0)))
    ]

pub mapped_lease : (a : Agreement) (p : ℕ) → IsConsistent a → IfSome (mapped a p) (λ o. leased a o.shard o.local ≡ Some p)
mapped_lease a p is = each_some (mapped a p) (λ o. leased a o.shard o.local ≡ Some p) (λ o e. (is.places o.shard o.local p).1 e)

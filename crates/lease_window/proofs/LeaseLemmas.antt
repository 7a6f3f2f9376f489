-- A lease that is looked up part by part is the map's.
use Rattle.std.proofs.Common.{◌≡◌, ℕ, ◌+◌, ◌^◌, ◌<◌, ◌≤◌, ◌↔◌, List, length, Option, Some, None, refl, sym, ap, ◌∙◌, inl, inr, arith}
use Rattle.std.specs.Prelude.{IsSome, IfSome}
use Rattle.std.specs.List.{slice_get}
use Rattle.std.specs.Option.{is_some, option_map, option_or, option_and_then}
use Rattle.std.proofs.lemmas.Bool.{cases_lt}
use Rattle.std.proofs.lemmas.Option.{slice_get_within, slice_get_cases}
use Rattle.fix_ante.specs.Windows.{Window}
use Rattle.fix_ante.specs.Layout.{place_of, index_of}
use Rattle.fix_ante.proofs.PositionLemmas.{owner_of_place}
use Rattle.cut_core.specs.Agreements.{Agreement, count_of}
use Rattle.cut_core.specs.Map.{placed, leased, mapped, map_of, rest_of, numbers_of}
use Rattle.cut_core.specs.Soundness.{IsSound, IsGrant, MayBeGrant}
use Rattle.cut_core.specs.Consistency.{IsConsistent}
use Rattle.cut_core.proofs.Indices.{option_or_some, option_or_none, index_of_some}
use Rattle.cut_core.proofs.Parts.{place_in_grant, leased_parts, place_rest}
use Rattle.cut_core.proofs.Numbers.{IsNumbered, numbers_covered, numbers_current, numbers_granted, length_numbers_of}
use Rattle.lease_window.specs.declared.lease.Lease.{Lease}
use Rattle.lease_window.specs.inside.Leases.{numbered, lease_of, lease_in}

abbrev lease : ℕ → ℕ → Lease
lease number position = record { window = number; position = position }

-- ---- a lease is looked up part by part

-- a covered local's
pub lease_covered : (a : Agreement) (shard local p number : ℕ) → IsSound a → IsNumbered a → placed a shard local ≡ Some p → slice_get a.numbers p ≡ Some number
    → lease_of a shard local ≡ Some (lease number p)
lease_covered a shard local p number is all place at =
    let position : leased a shard local ≡ Some p = leased_parts a shard local is ∙ option_or_some (placed a shard local) (option_or (place_of a.current shard local) (place_in_grant a.granted shard local)) p place in
    let within = slice_get_within a.numbers p number at in
    ap (option_and_then (numbered (numbers_of a))) position ∙ ap (option_map (λ n. lease n p)) (numbers_covered a p all (omega arith) ∙ at)

-- a covered position has a number
pub covered_number : (a : Agreement) (shard local p : ℕ) → IsNumbered a → p < length a.covered → slice_get a.numbers p ≡ None → ⊥
covered_number a shard local p all below none =
    elim ((slice_get_cases a.numbers p).1) [
      | inl there ↦ let both : None ≡ Some there.0 = sym none ∙ there.2 in absurd (cc)
      | inr past ↦ absurd (omega (arith, past.0))
    ]

-- a local that isn't covered is past the covered ones
not_covered : (a : Agreement) (shard local : ℕ) → IsSound a → placed a shard local ≡ None → count_of shard a.covered ≤ local
not_covered a shard local is none =
    elim (cases_lt local (count_of shard a.covered)) [
      | inl below ↦
          let index = index_of_some a.covered shard local (is.dense shard) below in
          let both : None ≡ Some index.0 = sym none ∙ index.1 in
          absurd (cc)
      | inr past ↦ past
    ]

-- the current window's places of such locals are in the rest
place_from : (covered : ℕ) (index : Option ℕ) (p : ℕ) → option_map (λ i. covered + i) index ≡ Some p → covered ≤ p
place_from covered None p e = absurd (cc)
place_from covered (Some i) p e = let at : covered + i ≡ p = cc in omega arith

current_lease : (a : Agreement) (shard local p : ℕ) → IsSound a → IsNumbered a → count_of shard a.covered ≤ local → place_of a.current shard local ≡ Some p
    → numbered (numbers_of a) p ≡ Some (lease a.current.number p)
current_lease a shard local p is all past place =
    let within = owner_of_place a.current shard local p is.window place in
    let from = place_from (length a.covered) (index_of (rest_of a) shard local) p (sym (place_rest a shard local is past) ∙ place) in
    ap (option_map (λ n. lease n p)) (numbers_current a p is all from within.1)

granted_lease : (a : Agreement) (w : Window) (shard local : ℕ) (place : Option ℕ) → IsSound a → IsNumbered a → a.granted ≡ Some w → IsGrant a w
    → place_of w shard local ≡ place → option_and_then (numbered (numbers_of a)) place ≡ option_map (λ p. lease w.number p) place
granted_lease a w shard local None is all granted grant place = refl
granted_lease a w shard local (Some p) is all granted grant place =
    let within = owner_of_place w shard local p grant.window place in
    ap (option_map (λ n. lease n p)) (numbers_granted a w p is all granted grant (omega (arith, grant.base, within.0)) within.1)

in_grant : (a : Agreement) (g : Option Window) (shard local : ℕ) → IsSound a → IsNumbered a → a.granted ≡ g → MayBeGrant a g
    → option_and_then (numbered (numbers_of a)) (place_in_grant g shard local) ≡ option_and_then (λ (w : Window). lease_in w shard local) g
in_grant a None shard local is all granted grant = refl
in_grant a (Some w) shard local is all granted grant = granted_lease a w shard local (place_of w shard local) is all granted grant refl

in_windows : (a : Agreement) (shard local : ℕ) (place : Option ℕ) → IsSound a → IsNumbered a → count_of shard a.covered ≤ local
    → place_of a.current shard local ≡ place
    → option_and_then (numbered (numbers_of a)) (option_or place (place_in_grant a.granted shard local)) ≡ option_or (option_map (λ p. lease a.current.number p) place) (option_and_then (λ (w : Window). lease_in w shard local) a.granted)
in_windows a shard local None is all past place = in_grant a a.granted shard local is all refl is.grant
in_windows a shard local (Some p) is all past place = current_lease a shard local p is all past place

-- another local's, in the current window and then in the granted one
pub lease_uncovered : (a : Agreement) (shard local : ℕ) → IsSound a → IsNumbered a → placed a shard local ≡ None
    → lease_of a shard local ≡ option_or (lease_in a.current shard local) (option_and_then (λ (w : Window). lease_in w shard local) a.granted)
lease_uncovered a shard local is all none =
    let later = option_or (place_of a.current shard local) (place_in_grant a.granted shard local) in
    ap (option_and_then (numbered (numbers_of a))) (leased_parts a shard local is ∙ option_or_none (placed a shard local) later none)
    ∙ in_windows a shard local (place_of a.current shard local) is all (not_covered a shard local is none) refl

pub lease_current : (a : Agreement) (w : Window) (shard local : ℕ) (l : Lease) → IsSound a → IsNumbered a → placed a shard local ≡ None → w ≡ a.current
    → lease_in w shard local ≡ Some l → lease_of a shard local ≡ Some l
lease_current a w shard local l is all none current here =
    lease_uncovered a shard local is all none
    ∙ option_or_some (lease_in a.current shard local) (option_and_then (λ (w : Window). lease_in w shard local) a.granted) l (ap (λ (v : Window). lease_in v shard local) (sym current) ∙ here)

pub lease_granted : (a : Agreement) (w : Window) (g : Option Window) (shard local : ℕ) → IsSound a → IsNumbered a → placed a shard local ≡ None → w ≡ a.current
    → lease_in w shard local ≡ None → a.granted ≡ g → lease_of a shard local ≡ option_and_then (λ (w : Window). lease_in w shard local) g
lease_granted a w g shard local is all none current not_here granted =
    lease_uncovered a shard local is all none
    ∙ option_or_none (lease_in a.current shard local) (option_and_then (λ (w : Window). lease_in w shard local) a.granted) (ap (λ (v : Window). lease_in v shard local) (sym current) ∙ not_here)
    ∙ ap (option_and_then (λ (w : Window). lease_in w shard local)) granted

-- ---- what a lease says

from_number : (p : ℕ) (number : Option ℕ) (l : Lease) → option_map (λ n. lease n p) number ≡ Some l → (p ≡ l.position) × (number ≡ Some l.window)
from_number p None l e = absurd (cc)
from_number p (Some n) l e = let is : lease n p ≡ l = cc in (ap (λ (x : Lease). x.position) is, ap (λ (x : Lease). Some x.window) is)

from_position : (numbers : List ℕ) (position : Option ℕ) (l : Lease) → option_and_then (numbered numbers) position ≡ Some l
    → (position ≡ Some l.position) × (slice_get numbers l.position ≡ Some l.window)
from_position numbers None l e = absurd (cc)
from_position numbers (Some p) l e =
    let is = from_number p (slice_get numbers p) l e in
    (ap (λ n. Some n) is.0, ap (slice_get numbers) (sym is.0) ∙ is.1)

-- its position is the local's, and its number that of the position
pub lease_is : (a : Agreement) (shard local : ℕ) (l : Lease) → lease_of a shard local ≡ Some l
    → (leased a shard local ≡ Some l.position) × (slice_get (numbers_of a) l.position ≡ Some l.window)
lease_is a shard local l e = from_position (numbers_of a) (leased a shard local) l e

-- what follows from each value that an option may have
pub each_some : {X : Type 0} (o : Option X) (P : X → Type 0) → ((x : X) → o ≡ Some x → P x) → IfSome o P
each_some None P h = tt
each_some (Some x) P h = h x refl

pub lease_window : (a : Agreement) (shard local : ℕ) → IfSome (lease_of a shard local) (λ l. slice_get (numbers_of a) l.position ≡ Some l.window)
lease_window a shard local = each_some (lease_of a shard local) (λ l. slice_get (numbers_of a) l.position ≡ Some l.window) (λ l e. (lease_is a shard local l e).1)

pub lease_owner : (a : Agreement) (shard local : ℕ) → IsConsistent a
    → IfSome (lease_of a shard local) (λ l. mapped a l.position ≡ Some (record { shard = shard; local = local }))
lease_owner a shard local is =
    each_some (lease_of a shard local) (λ l. mapped a l.position ≡ Some (record { shard = shard; local = local })) (λ l e. (is.places shard local l.position).0 ((lease_is a shard local l e).0))

pub lease_limit : (a : Agreement) (shard local : ℕ) → IsConsistent a → a.slots ≤ 1000000 → IfSome (lease_of a shard local) (λ l. l.position < 2 ^ 48)
lease_limit a shard local is few =
    each_some (lease_of a shard local) (λ l. l.position < 2 ^ 48)
    (λ l e. let owner = (is.places shard local l.position).0 ((lease_is a shard local l e).0) in
    let within = slice_get_within (map_of a) l.position _ owner in
    omega (arith, is.fits))

-- a position of the map has a number
positioned : (a : Agreement) (position : Option ℕ) → IsNumbered a → ((p : ℕ) → position ≡ Some p → p < length (map_of a))
    → option_map (λ (l : Lease). l.position) (option_and_then (numbered (numbers_of a)) position) ≡ position
positioned a None all within = refl
positioned a (Some p) all within =
    elim ((slice_get_cases (numbers_of a) p).1) [
      | inl there ↦ ap (λ o. option_map (λ (l : Lease). l.position) (option_map (λ n. lease n p) o)) there.2
      | inr past ↦ absurd (omega (arith, past.0, length_numbers_of a all, within p refl))
    ]

pub lease_position : (a : Agreement) (shard local : ℕ) → IsConsistent a → IsNumbered a
    → option_map (λ (l : Lease). l.position) (lease_of a shard local) ≡ leased a shard local
lease_position a shard local is all = positioned a (leased a shard local) all (λ p e. slice_get_within (map_of a) p _ ((is.places shard local p).0 e))

same_some : (o : Option Lease) → is_some (option_map (λ (l : Lease). l.position) o) ≡ is_some o
same_some None = refl
same_some (Some l) = refl

pub lease_within : (a : Agreement) (shard local : ℕ) → IsConsistent a → IsNumbered a → IsSome (lease_of a shard local) ↔ (local < count_of shard (map_of a))
lease_within a shard local is all =
    let same : is_some (lease_of a shard local) ≡ is_some (leased a shard local) = sym (same_some (lease_of a shard local)) ∙ ap is_some (lease_position a shard local is all) in
    (λ some. (is.leases shard local).0 (sym same ∙ some), λ below. same ∙ (is.leases shard local).1 below)

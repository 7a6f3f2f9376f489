-- What is leased to a shard: no less than is covered, and it falls only with a removal.
use Rattle.std.proofs.Common.{◌≡◌, ◌∙◌, ℕ, ◌<◌, ◌≤◌, ◌++◌, length, refl, ap, subst, sym, inl, inr, arith}
use Rattle.std.specs.Prelude.{is_some}
use Rattle.std.proofs.lemmas.Bool.{cases_lt}
use Rattle.std.proofs.lemmas.List.{length-append}
use Rattle.std.proofs.lemmas.Option.{slice_get_within}
use Rattle.fix_ante.specs.declared.spots.Owner.{Owner}
use Rattle.fix_ante.specs.Locals.{locals_of}
use Rattle.fix_ante.proofs.LocalLemmas.{locals_of_append}
use Rattle.cut_core.specs.declared.effects.Effect.{Effect}
use Rattle.cut_core.specs.declared.effects.Effect.TheVariants.{Still, Covered, Opened, Granted, Removed, Void}
use Rattle.cut_core.specs.Agreements.{Agreement, count_of}
use Rattle.cut_core.specs.Consistency.{IsConsistent}
use Rattle.cut_core.specs.Effects.{effect_of}
use Rattle.cut_core.specs.Fold.{applied}
use Rattle.cut_core.specs.Map.{map_of, mapped, leased, covered_locals, rest_of, granted_layout}
use Rattle.cut_core.specs.MapsAgree.{IsBelowFirst}
use Rattle.cut_core.proofs.AgreeingLemmas.{mapped_applied}
use Rattle.cut_core.proofs.Consistent.{IsConsistent_fold_of}
use Rattle.cut_core.proofs.Parts.{some_value}
use Rattle.node_rules.specs.Names.{Entry}
use Rattle.node_rules.specs.Bases.{Base, agreed_by}
use Rattle.node_rules.specs.Sound.{IsBase}
use Rattle.node_rules.proofs.Limits.{all_foldable}

abbrev pub leases : Agreement → ℕ → ℕ
leases a shard = count_of shard (map_of a)

pub base_consistent : (b : Base) → IsBase b → IsConsistent (agreed_by b)
base_consistent b is =
    IsConsistent_fold_of b.cfg.rounds b.cfg.table b.known is.cfg.rounds.0 is.cfg.rounds.1 is.cfg.rows.table is.few (all_foldable b.known is.entries)

pub covered_leased : (a : Agreement) (shard : ℕ) → covered_locals a shard ≤ leases a shard
covered_leased a shard =
    let later = rest_of a ++ granted_layout a.granted in
    omega (arith, ap length (locals_of_append shard a.covered later), length-append (locals_of shard a.covered) (locals_of shard later))

module _ (a b : Agreement) (shard : ℕ) (is : IsConsistent a) (next : IsConsistent b) (same : (p : ℕ) → p < length (map_of a) → mapped b p ≡ mapped a p) where
  abbrev owner : ℕ → Owner
  owner local = record { shard = shard; local = local }

  -- a local that is leased stays leased
  stays_leased : (local : ℕ) → local < leases a shard → local < leases b shard
  stays_leased local within =
      let lease = some_value (leased a shard local) ((is.leases shard local).1 within) in
      let at = (is.places shard local lease.0).0 lease.1 in
      let inside = slice_get_within (map_of a) lease.0 (owner local) at in
      let later = (next.places shard local lease.0).1 (same lease.0 inside ∙ at) in
      (next.leases shard local).0 (ap is_some later)

  pub leases_grow : leases a shard ≤ leases b shard
  leases_grow = elim (cases_lt (leases b shard) (leases a shard)) [
    | inl fewer ↦ absurd (omega (arith, stays_leased (leases b shard) fewer))
    | inr enough ↦ enough
  ]

-- an entry that removes nothing
module _ (a : Agreement) (entry : Entry) (shard : ℕ) (is : IsConsistent a) (next : IsConsistent (applied a entry)) where
  below_first : ((p : ℕ) → IsBelowFirst (effect_of a entry) p) → leases a shard ≤ leases (applied a entry) shard
  below_first below = leases_grow a (applied a entry) shard is next (λ p inside. mapped_applied a entry p is.sound inside (below p))

  -- else the promises are taken back
  pub unless_removed : (effect : Effect) → effect_of a entry ≡ effect → (Covers : Type 0)
      → ((gone first : ℕ) → effect ≡ Removed gone first → Covers)
      → (leases a shard ≤ leases (applied a entry) shard → Covers) → Covers
  unless_removed (Removed gone first) e Covers removed kept = removed gone first refl
  unless_removed Still e Covers removed kept = kept (below_first (λ p. subst (λ (x : Effect). IsBelowFirst x p) (sym e) tt))
  unless_removed (Covered rounds) e Covers removed kept = kept (below_first (λ p. subst (λ (x : Effect). IsBelowFirst x p) (sym e) tt))
  unless_removed (Opened window) e Covers removed kept = kept (below_first (λ p. subst (λ (x : Effect). IsBelowFirst x p) (sym e) tt))
  unless_removed (Granted window) e Covers removed kept = kept (below_first (λ p. subst (λ (x : Effect). IsBelowFirst x p) (sym e) tt))
  unless_removed (Void reason) e Covers removed kept = kept (below_first (λ p. subst (λ (x : Effect). IsBelowFirst x p) (sym e) tt))

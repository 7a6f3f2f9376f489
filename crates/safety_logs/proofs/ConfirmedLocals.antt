-- The first so many locals of a shard are confirmed, in order, each at its place with its record; and so is the next.
use Rattle.std.proofs.Common.{◌≡◌, ◌∙◌, ℕ, ◌+◌, List, [], ◌∷◌, ◌++◌, length, Some, inl, inr, sym, ap, subst, arith}
use Rattle.std.specs.List.{slice_get}
use Rattle.std.proofs.lemmas.Bool.{cases_lt}
use Rattle.std.proofs.lemmas.List.{length-append}
use Rattle.std.proofs.lemmas.Option.{slice_get_within}
use Rattle.fix_ante.specs.Layout.{index_of}
use Rattle.fix_ante.proofs.Entries.{slice_get_append_left}
use Rattle.cut_core.specs.Agreements.{Agreement}
use Rattle.cut_core.specs.Fold.{applied}
use Rattle.cut_core.specs.Map.{placed}
use Rattle.cut_core.proofs.AgreeingLemmas.{covered_applied}
use Rattle.cut_core.proofs.Indices.{index_of_append, option_or_some}
use Rattle.runs.specs.Names.{Entry, Record}
use Rattle.runs.specs.Marks.{IsPrefix}
use Rattle.safety_frame.proofs.Lists.{index_stays}
use Rattle.safety_logs.proofs.Fronts.{after_front}

pub record ConfirmsTo (a : Agreement) (shard len : ℕ) (log : List Record) (shown : List (ℕ × Record)) : Type 0 where
  pub long : length shown ≡ len
  pub each : (local position : ℕ) (rec : Record) → slice_get shown local ≡ Some (position, rec)
      → (placed a shard local ≡ Some position) × (slice_get log local ≡ Some rec)

-- it stays so with more records, and with an entry more, since places stay
pub to_longer : (a : Agreement) (shard len : ℕ) (log more : List Record) (shown : List (ℕ × Record)) → IsPrefix log more → ConfirmsTo a shard len log shown
    → ConfirmsTo a shard len more shown
to_longer a shard len log more shown grown is = record {
  long = is.long;
  each = λ local position rec at. let was = is.each local position rec at in (was.0, index_stays log more local rec grown was.1);
}

placed_on : (a : Agreement) (entry : Entry) (shard local position : ℕ) → placed a shard local ≡ Some position
    → placed (applied a entry) shard local ≡ Some position
placed_on a entry shard local position at =
    let more = covered_applied a entry in
    ap (λ owners. index_of owners shard local) more.1
    ∙ (index_of_append a.covered more.0 shard local ∙ option_or_some (index_of a.covered shard local) _ position at)

pub to_later : (a : Agreement) (entry : Entry) (shard len : ℕ) (log : List Record) (shown : List (ℕ × Record)) → ConfirmsTo a shard len log shown
    → ConfirmsTo (applied a entry) shard len log shown
to_later a entry shard len log shown is = record {
  long = is.long;
  each = λ local position rec at.
      let was = is.each local position rec at in
      (placed_on a entry shard local position was.0, was.1);
}

-- the next one
module _ (a : Agreement) (shard len : ℕ) (log : List Record) (shown : List (ℕ × Record)) (position : ℕ) (rec : Record) where
  at_end : (other : ℕ × Record) → slice_get (shown ++ (position, rec) ∷ []) (length shown) ≡ Some other → (position, rec) ≡ other
  at_end other at =
      let same : Some (position, rec) ≡ Some other = sym (after_front shown ((position, rec) ∷ [])) ∙ at in
      cc

  pub one_more : placed a shard len ≡ Some position → slice_get log len ≡ Some rec → ConfirmsTo a shard len log shown
      → ConfirmsTo a shard (len + 1) log (shown ++ (position, rec) ∷ [])
  one_more place at is = record {
    long = omega (arith, is.long, length-append shown ((position, rec) ∷ []));
    each = λ local p r here.
        elim (cases_lt local (length shown)) [
          | inl below ↦ is.each local p r (sym (slice_get_append_left shown ((position, rec) ∷ []) local below) ∙ here)
          | inr above ↦
              let within = slice_get_within (shown ++ (position, rec) ∷ []) local (p, r) here in
              let last : local ≡ length shown = omega (arith, within, above, length-append shown ((position, rec) ∷ [])) in
              let same = at_end (p, r) (subst (λ (k : ℕ). slice_get (shown ++ (position, rec) ∷ []) k ≡ Some (p, r)) last here) in
              let here_len : local ≡ len = omega (arith, last, is.long) in
              subst (λ (x : ℕ × Record). (placed a shard local ≡ Some x.0) × (slice_get log local ≡ Some x.1)) same
              (subst (λ (k : ℕ). (placed a shard k ≡ Some position) × (slice_get log k ≡ Some rec)) (sym here_len) (place, at))
        ];
  }

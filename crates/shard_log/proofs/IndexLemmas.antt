-- An index with one more place at its end is an index.
use Rattle.std.proofs.Common.{◌≡◌, ℕ, ◌-◌, ◌≤◌, [], ◌∷◌, ◌++◌, length, sym, ap, ◌∙◌, arith}
use Rattle.std.specs.List.{All}
use Rattle.std.specs.BTreeMap.{get}
use Rattle.std.specs.Ordering.{nat_cmp}
use Rattle.std.specs.Option.{option_or}
use Rattle.std.proofs.lemmas.List.Sorted.{IsNonDecreasingBy-push}
use Rattle.shard_log.specs.declared.index.ClientIndex.TheInside.{Inside}
use Rattle.shard_log.specs.declared.index.Place.{Place}
use Rattle.shard_log.specs.inside.Places.{first_with, local_with}
use Rattle.shard_log.specs.inside.Index.{IsIndex}
use Rattle.shard_log.proofs.PlaceLemmas.{first_with_push}

-- a place at the end, no lower than those before it, and the first local of each number with it
pub IsIndex_push : (i j : Inside) (place : Place) → IsIndex i → All (λ (p : Place). p.local ≤ place.local) i.places.items
    → j.places.items ≡ i.places.items ++ place ∷ []
    → ((number : ℕ) → get nat_cmp j.locals number ≡ option_or (get nat_cmp i.locals number) (local_with number place))
    → IsIndex j
IsIndex_push i j place index above items found = record {
  rising = rw items (IsNonDecreasingBy-push (λ (p : Place). p.local) i.places.items place index.rising (λ d h. above (length i.places.items - 1) d (omega arith)));
  found = λ number.
      found number ∙ ap (λ o. option_or o (local_with number place)) (index.found number) ∙ sym (ap (first_with number) items ∙ first_with_push number i.places.items place);
}

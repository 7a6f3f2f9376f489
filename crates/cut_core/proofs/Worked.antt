-- The fold of some lists of entries, worked out by hand.
use Rattle.std.proofs.Common.{◌≡◌, List, [], ◌∷◌, Some, None, refl}
use Rattle.quota_table.specs.declared.rows.Row.{Row}
use Rattle.quota_table.specs.declared.entry.Entry.TheVariants.{Cut, Table, Remove}
use Rattle.fix_ante.specs.Windows.{Window, first_of}
use Rattle.cut_core.specs.declared.effects.Effect.TheVariants.{Covered, Granted, Removed, Void}
use Rattle.cut_core.specs.declared.effects.Reason.TheVariants.{WrongWindow, LastShard}
use Rattle.cut_core.specs.Agreements.{Agreement, agreement_from}
use Rattle.cut_core.specs.Fold.{fold_of}
use Rattle.cut_core.specs.Effects.{effect_of}
use Rattle.cut_core.specs.Map.{mapped, leased, located, placed, covered_locals, gone_end}

-- two shards, and a table that turns them round
abbrev two : Window
two = first_of 4 (record { shard = 0; quota = 2 } ∷ record { shard = 1; quota = 3 } ∷ [])

abbrev turned : List Row
turned = record { shard = 1; quota = 1 } ∷ record { shard = 0; quota = 1 } ∷ []

lease_waits_for_the_table : leased (agreement_from two) 1 12 ≡ None
lease_waits_for_the_table = refl

table_is_granted : effect_of (agreement_from two) (Table 0 4 turned) ≡ Granted 1
table_is_granted = refl

granted_window : (fold_of two (Table 0 4 turned ∷ [])).granted ≡ Some (record { number = 1; base = 20; rounds = 4; spots = record { shard = 1; quota = 1; start = 12 } ∷ record { shard = 0; quota = 1; start = 8 } ∷ [] })
granted_window = refl

lease_of_the_grant : leased (fold_of two (Table 0 4 turned ∷ [])) 1 12 ≡ Some 20
lease_of_the_grant = refl

lease_of_the_other : leased (fold_of two (Table 0 4 turned ∷ [])) 0 8 ≡ Some 21
lease_of_the_other = refl

-- three shards, of which one leaves after a round
abbrev three : Window
three = first_of 4 (record { shard = 0; quota = 2 } ∷ record { shard = 1; quota = 3 } ∷ record { shard = 2; quota = 1 } ∷ [])

abbrev rows : List Row
rows = record { shard = 0; quota = 2 } ∷ record { shard = 1; quota = 3 } ∷ record { shard = 2; quota = 1 } ∷ []

abbrev cut : Agreement
cut = fold_of three (Cut 0 0 ∷ [])

abbrev left : Agreement
left = fold_of three (Cut 0 0 ∷ Remove 0 1 ∷ [])

round_is_covered : effect_of (agreement_from three) (Cut 0 0) ≡ Covered 1
round_is_covered = refl

shard_is_removed : effect_of cut (Remove 0 1) ≡ Removed 1 8
shard_is_removed = refl

window_after : left.current ≡ record { number = 2; base = 6; rounds = 4; spots = record { shard = 0; quota = 2; start = 2 } ∷ record { shard = 2; quota = 1; start = 1 } ∷ [] }
window_after = refl

first_failed_moves : (mapped cut 8 ≡ Some (record { shard = 1; local = 3 })) × (mapped left 8 ≡ Some (record { shard = 2; local = 1 }))
first_failed_moves = (refl, refl)

earlier_stay : (mapped left 6 ≡ Some (record { shard = 0; local = 2 })) × (mapped left 7 ≡ Some (record { shard = 0; local = 3 }))
earlier_stay = (refl, refl)

end_of_the_shard : (gone_end left 1 ≡ Some 3) × (covered_locals left 1 ≡ 3) × (gone_end left 0 ≡ None)
end_of_the_shard = (refl, refl, refl)

-- a removal cancels a grant, and a cut of the window before is void then
abbrev cancelled : Agreement
cancelled = fold_of three (Cut 0 0 ∷ Table 0 4 rows ∷ Remove 0 1 ∷ [])

grant_is_cancelled : (effect_of cut (Table 0 4 rows) ≡ Granted 2) × (cancelled.granted ≡ None) × (effect_of cancelled (Cut 0 1) ≡ Void (WrongWindow 3))
grant_is_cancelled = (refl, refl, refl)

-- the only row stays
only_row_stays : effect_of (agreement_from (first_of 2 (record { shard = 0; quota = 1 } ∷ []))) (Remove 0 0) ≡ Void LastShard
only_row_stays = refl

-- the last cut opens the grant, and a shard that is no row of it is gone
abbrev single : Window
single = first_of 1 (record { shard = 0; quota = 1 } ∷ record { shard = 1; quota = 2 } ∷ [])

abbrev opening : Agreement
opening = fold_of single (Table 0 2 (record { shard = 1; quota = 1 } ∷ []) ∷ Cut 0 0 ∷ [])

opened_window : (opening.current.number ≡ 1) × (opening.current.base ≡ 3) × (opening.rounds ≡ 0) × (gone_end opening 0 ≡ Some 1) × (gone_end opening 1 ≡ None) × (located opening 2 ≡ Some (record { shard = 1; local = 1 })) × (placed opening 1 1 ≡ Some 2) × (leased opening 1 2 ≡ Some 3)
opened_window = (refl, refl, refl, refl, refl, refl, refl, refl)

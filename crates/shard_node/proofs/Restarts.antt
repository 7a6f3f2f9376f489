-- What a restart in place leaves is what the items leave that were stored.
use Rattle.std.proofs.Common.{◌≡◌, ◌+◌, ◌^◌, Bool, true, false, List, [], ◌∷◌, ◌++◌, length, replicate, refl, sym, ap, ◌∙◌}
use Rattle.std.specs.Prelude.{if◌then◌else◌, nat_le}
use Rattle.node_rules.specs.Names.{Entry, Record, Item}
use Rattle.node_rules.specs.Names.records
use Rattle.node_rules.specs.Names.items
use Rattle.node_rules.specs.Nodes.{Node, knowing, has_slot, fit_known, with_own}
use Rattle.shard_node.specs.States.{ReplicaState, with_log}
use Rattle.shard_node.specs.Restart.{fit, fit_records, reset_of}

-- ---- an item fits a node as it fits what a restart leaves of the node

either : {A B : Type 0} → (f : A → B) (b : Bool) (x y v w : A) → f x ≡ f v → f y ≡ f w → f (if b then x else y) ≡ f (if b then v else w)
either f true x y v w first second = first
either f false x y v w first second = second

reset_fit_known : (entry : Entry) (n : Node ReplicaState) → reset_of (fit_known entry n) ≡ reset_of (fit_known entry (reset_of n))
reset_fit_known entry n = either reset_of (has_slot n.base) _ n _ (reset_of n) refl refl

reset_fit_records : (recs : List Record) (n : Node ReplicaState) → reset_of (fit_records recs n) ≡ reset_of (fit_records recs (reset_of n))
reset_fit_records recs n = either reset_of (nat_le (length n.own.log + length recs) (2 ^ 48)) _ n _ (reset_of n) refl refl

reset_fit : (n : Node ReplicaState) (item : Item) → reset_of (fit n item) ≡ reset_of (fit (reset_of n) item)
reset_fit n (items.Known entry) = reset_fit_known entry n
reset_fit n (items.Taken rec) = reset_fit_records (rec ∷ []) n
reset_fit n (items.Noops count) = reset_fit_records (replicate count records.Noop) n
reset_fit n _ = refl

-- nodes of which a restart leaves the same are left the same by the same item
pub same_fit : (m n : Node ReplicaState) (item : Item) → reset_of m ≡ reset_of n → reset_of (fit m item) ≡ reset_of (fit n item)
same_fit m n item e = reset_fit m item ∙ ap (λ (x : Node ReplicaState). reset_of (fit x item)) e ∙ sym (reset_fit n item)

-- ---- one more item that fits

pub fits_known : (n : Node ReplicaState) (entry : Entry) → has_slot n.base ≡ true → fit n (items.Known entry) ≡ record n { base = knowing entry n.base }
fits_known n entry slot = ap (λ (b : Bool). if b then record n { base = knowing entry n.base } else n) slot

pub fits_records : (n : Node ReplicaState) (recs : List Record) → nat_le (length n.own.log + length recs) (2 ^ 48) ≡ true
    → fit_records recs n ≡ with_own (with_log (n.own.log ++ recs) n.own) n
fits_records n recs room = ap (λ (b : Bool). if b then with_own (with_log (n.own.log ++ recs) n.own) n else n) room

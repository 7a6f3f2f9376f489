-- What the items of a vault give is a consumer, whatever valid items they are.
use Rattle.std.proofs.Common.{◌≡◌, true, List, [], ◌∷◌, length, drop, Option, Some, None, refl, ap, arith}
use Rattle.std.specs.List.{fold}
use Rattle.std.specs.Option.{option_map_or}
use Rattle.consumer_node.specs.inside.Names.{IsValidEntry, Owner, IsBelowFirst, effect_of, located, IsValidConfig, IsNodeOf, IsValidItem, AreValidItems, Node}
use Rattle.consumer_node.specs.inside.Names.{first_window, agreed_by, has_slot, knowing, with_own, IsBase, Meaning, ConsumerState, with_confirmed, IsConsumer}
use Rattle.node_rules.specs.Names.{NodeId, Config, Entry, Record, Item}
use Rattle.node_rules.specs.Names.items
use Rattle.node_rules.proofs.Lists.{on_test}
use Rattle.consumer_node.specs.Restart.{fresh_node, fit, closed_by, restart_of}
use Rattle.consumer_node.proofs.Owners.{agreement_by}
use Rattle.consumer_node.proofs.Owned.{IsLearned, Any, own_open, own_fresh, confirm_learned}
use Rattle.consumer_node.proofs.Learned.{own_knowing, own_uncut, own_closed}
use Rattle.node_rules.proofs.Limits.{base_knowing, base_fresh}

-- before the gone shards are closed
pub record IsFitted {A : Type 0} (n : Node (ConsumerState A)) : Type 0 where
  pub base : IsBase n.base
  pub own : IsLearned Any (agreed_by n.base) n.own
  pub none : n.own.pending ≡ []

-- ---- one item more

fitted_known : {A : Type 0} (n : Node (ConsumerState A)) (entry : Entry) → IsValidEntry entry → has_slot n.base ≡ true → IsFitted n
    → IsFitted (record n { base = knowing entry n.base })
fitted_known n entry valid slot is =
    let empty : length n.own.pending ≡ 0 = ap length is.none in
    record {
      base = base_knowing entry n.base valid slot is.base;
      own =
          own_uncut (IsBelowFirst (effect_of (agreed_by n.base) entry)) (agreed_by (knowing entry n.base)) n.own (λ i below. absurd (omega (arith, below, empty)))
          (own_knowing n.base entry n.own is.base is.own);
      none = is.none;
    }

fitted_confirmed : {A : Type 0} (app : Meaning A) (n : Node (ConsumerState A)) (rec : Record) (found : Option Owner)
    → located (agreed_by n.base) n.own.confirmed ≡ found → IsFitted n
    → IsFitted (option_map_or (λ o. with_own (with_confirmed app rec o n.own) n) found n)
fitted_confirmed app n rec None e is = is
fitted_confirmed app n rec (Some o) e is = record {
  base = is.base;
  own = confirm_learned app (agreed_by n.base) n.own rec o (agreement_by n.base is.base) e is.own;
  none = ap (drop 1) is.none;
}

pub fitted_one : {A : Type 0} (app : Meaning A) (n : Node (ConsumerState A)) (item : Item) → IsValidItem item → IsFitted n → IsFitted (fit app n item)
fitted_one app n (items.Known entry) valid is = on_test IsFitted (has_slot n.base) _ n (λ slot. fitted_known n entry valid slot is) (λ _. is)
fitted_one app n (items.Confirmed rec output) valid is = fitted_confirmed app n rec (located (agreed_by n.base) n.own.confirmed) refl is
fitted_one app n _ valid is = is

fitted_all : {A : Type 0} (app : Meaning A) (stored : List Item) (n : Node (ConsumerState A)) → AreValidItems stored → IsFitted n
    → IsFitted (fold (fit app) n stored)
fitted_all app [] n valid is = is
fitted_all app (item ∷ stored) n valid is = fitted_all app stored (fit app n item) valid.1 (fitted_one app n item valid.0 is)

-- ---- all of them, and the gone shards are closed

pub fresh_sound : {A : Type 0} (app : Meaning A) (cfg : Config) (me : NodeId) → IsValidConfig cfg → IsNodeOf cfg me → IsConsumer (fresh_node app cfg me)
fresh_sound app cfg me valid here = record { base = base_fresh cfg me valid here; own = own_fresh app cfg.app (first_window cfg) }

pub closed_sound : {A : Type 0} (n : Node (ConsumerState A)) → IsFitted n → IsConsumer (closed_by n)
closed_sound n is = record { base = is.base; own = own_closed (agreed_by n.base) n.own (agreement_by n.base is.base) is.own }

pub restart_sound : {A : Type 0} (app : Meaning A) (cfg : Config) (me : NodeId) (stored : List Item) → IsValidConfig cfg → IsNodeOf cfg me
    → AreValidItems stored → IsConsumer (restart_of app cfg me stored)
restart_sound app cfg me stored valid here each =
    let fresh = fresh_sound app cfg me valid here in
    let fitted : IsFitted (fresh_node app cfg me) = record { base = fresh.base; own = own_open _ _ fresh.own; none = refl } in
    closed_sound (fold (fit app) (fresh_node app cfg me) stored) (fitted_all app stored (fresh_node app cfg me) each fitted)

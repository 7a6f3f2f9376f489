-- The items of a vault leave a client.
use Rattle.std.proofs.Common.{ℕ, ◌+◌, ◌^◌, List, [], ◌∷◌, length, nat_lt, length-append, arith}
use Rattle.std.specs.List.{AllByRecursion, fold}
use Rattle.std.specs.Prelude.{IsTrue}
use Rattle.std.proofs.lemmas.Bool.{ltb-true}
use Rattle.msg_wire.specs.Nodes.{is_client}
use Rattle.msg_wire.specs.Valid.{IsValidConfig, IsNodeOf, IsValidItem, AreValidItems, IsBody}
use Rattle.node_rules.specs.Names.{NodeId, Config, Item}
use Rattle.node_rules.specs.Names.items
use Rattle.node_rules.specs.Nodes.{Node, has_slot}
use Rattle.node_rules.proofs.Lists.{on_test, all_push}
use Rattle.node_rules.proofs.Limits.{base_knowing}
use Rattle.client_node.specs.States.{ClientState}
use Rattle.client_node.specs.Restart.{fit, fresh_node, restart_of}
use Rattle.client_node.specs.Sound.{IsClient}
use Rattle.client_node.proofs.Sound.{fresh_sound}

fit_sound : (n : Node ClientState) (item : Item) → IsValidItem item → IsClient n → IsClient (fit n item)
fit_sound n (items.Known entry) valid is = on_test IsClient (has_slot n.base) _ n (λ slot. record { base = base_knowing entry n.base valid slot is.base; own = is.own }) (λ _. is)
fit_sound n (items.Submitted body) valid is =
    on_test IsClient (nat_lt (length n.own.bodies) (2 ^ 48)) _ n
    (λ room. record {
      base = is.base;
      own = record {
        bodies = all_push IsBody n.own.bodies body is.own.bodies valid;
        few = omega (arith, ltb-true _ _ room, length-append n.own.bodies (body ∷ []));
        acked = is.own.acked;
        home = is.own.home;
        first = is.own.first;
      };
    })
    (λ _. is)
fit_sound n items.Acked valid is =
    on_test IsClient (nat_lt n.own.acked (2 ^ 48)) _ n
    (λ room. record { base = is.base; own = record { bodies = is.own.bodies; few = is.own.few; acked = omega (arith, ltb-true _ _ room); home = is.own.home; first = is.own.first } })
    (λ _. is)
fit_sound n (items.Moved shard first) valid is = record { base = is.base; own = record { bodies = is.own.bodies; few = is.own.few; acked = is.own.acked; home = valid.0; first = valid.1 } }
fit_sound n (items.Promised slot ballot) valid is = is
fit_sound n (items.Accepted slot ballot entry) valid is = is
fit_sound n (items.Taken rec) valid is = is
fit_sound n (items.Noops count) valid is = is
fit_sound n (items.Confirmed rec output) valid is = is

fits_sound : (n : Node ClientState) (stored : List Item) → AllByRecursion IsValidItem stored → IsClient n → IsClient (fold fit n stored)
fits_sound n [] valid is = is
fits_sound n (item ∷ stored) valid is = fits_sound (fit n item) stored valid.1 (fit_sound n item valid.0 is)

pub restart_sound : (cfg : Config) (me : NodeId) (stored : List Item) → IsValidConfig cfg → IsNodeOf cfg me → IsTrue (is_client me) → AreValidItems stored → IsClient (restart_of cfg me stored)
restart_sound cfg me stored valid here kind each = fits_sound (fresh_node cfg me) stored each (fresh_sound cfg me valid here)

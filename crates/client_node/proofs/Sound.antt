-- Steps of a sound client: it stays one, and what it stores and sends is valid.
use Rattle.std.proofs.Common.{◌≡◌, ◌≤◌, ◌^◌, [], ◌∷◌, length-append, sym, subst, arith}
use Rattle.std.proofs.lemmas.Option.{slice_get_within}
use Rattle.spec_base.specs.Spelling.{IsValidNode}
use Rattle.msg_wire.specs.Nodes.{number_of, replicas_of}
use Rattle.msg_wire.specs.Valid.{IsValidConfig, IsNodeOf, IsValidItem, IsValidWhat, IsValidEvent, IsBody}
use Rattle.msg_wire.specs.Steps.{IsValidStep}
use Rattle.node_rules.specs.Names.{NodeId, Config, Item, What, Event, Step}
use Rattle.node_rules.specs.Names.events
use Rattle.node_rules.specs.Bases.{agreed_by}
use Rattle.node_rules.specs.Nodes.{Node, with_own}
use Rattle.node_rules.specs.Turns.{turn_of}
use Rattle.node_rules.specs.Lives.{life_of}
use Rattle.node_rules.proofs.Lists.{all_push, all_at}
use Rattle.node_rules.proofs.Kept.{told_valid, Keeping, IsKept, Keeps, keeping, lives, kept_valid}
use Rattle.node_rules.proofs.Limits.{agreed_sound, base_fresh, base_reset}
use Rattle.client_node.specs.States.{ClientState}
use Rattle.client_node.specs.Sound.{IsClient}
use Rattle.client_node.specs.Steps.{client_step}
use Rattle.client_node.specs.Restart.{fit, fresh_node}
use Rattle.client_node.specs.Laws.{StepsAreValid}
use Rattle.client_node.proofs.Homes.{home_small, spot_small}
use Rattle.client_node.proofs.Places.{Says, Stores, sends_body, asks_fate, submits, counts, moves, client_places}
use Rattle.client_node.proofs.Walk.{client_walk}

-- ---- clients

abbrev Goes : NodeId → What → Type 0
Goes to what = IsValidNode to × IsValidWhat what

-- what restarts leave stands beside it
abbrev pub client_keeping : Keeping ClientState
client_keeping = record { Is = IsClient; fit = fit; Leads = λ a s. Unit {0} }

module _ (n : Node ClientState) (event : Event) (valid : IsValidEvent event) where
  says_valid : (s : Node ClientState) (to : NodeId) (what : What) → Says n event s to what → IsClient s → Goes to what
  says_valid s _ _ (sends_body number body from below at) is =
      (is.own.home, (is.own.first, omega (arith, slice_get_within s.own.bodies number body at, is.own.few), all_at IsBody s.own.bodies number body is.own.bodies at))
  says_valid s to _ (asks_fate _ i there gone) is = (all_at IsValidNode (replicas_of s.own.home) i to (is.own.home, (is.own.home, tt)) there, (is.own.first, is.own.acked))

  stores_valid : (s : Node ClientState) (item : Item) (own : ClientState) → Stores n event s item own → IsClient s
      → IsValidItem item × IsClient (with_own own s)
  stores_valid s _ _ (submits by body submit room) is =
      let submitted : IsValidEvent (events.Submit by body) = subst IsValidEvent submit valid in (
        submitted.1,
        record {
          base = is.base;
          own = record {
            bodies = all_push IsBody s.own.bodies body is.own.bodies submitted.1;
            few = omega (arith, room, length-append s.own.bodies (body ∷ []));
            acked = is.own.acked;
            home = is.own.home;
            first = is.own.first;
          };
        },
      )
  stores_valid s _ _ (counts from number position comes next room) is =
      (tt, record { base = is.base; own = record { bodies = is.own.bodies; few = is.own.few; acked = omega (arith, next, room); home = is.own.home; first = is.own.first } })
  stores_valid s _ _ (moves from next row comes home gone next_is row_is) is =
      let small : row.shard ≤ 5 = spot_small (agreed_by s.base).current.spots _ row (agreed_sound s.base is.base).window.table.within row_is in
      let low : next ≤ 2 ^ 48 = omega (arith, next_is, is.own.acked) in
      ((small, low), record { base = is.base; own = record { bodies = is.own.bodies; few = is.own.few; acked = is.own.acked; home = small; first = low } })

  client_keeps : Keeps client_places client_keeping n event
  client_keeps = record {
    base = λ s is. is.base;
    resets = λ is. (record { base = base_reset n.base is.base; own = is.own }, λ a leads. tt);
    learns = λ s entry told is. told_valid n event s entry told valid;
    knows = λ s entry base is. record { base = base; own = is.own };
    sees = λ s count base is. record { base = base; own = is.own };
    ticks = λ s base is. record { base = base; own = is.own };
    says = says_valid;
    stores = stores_valid;
    changes = λ s own why is. absurd why;
    leads_known = λ a s entry slot leads. tt;
    leads_seen = λ a s count leads. tt;
    leads_ticked = λ a s leads. tt;
    leads_stored = λ a s item own why is leads. tt;
    leads_changed = λ a s own why leads. tt;
  }

-- ---- steps and lives

pub step_sound : (n : Node ClientState) (event : Event) → IsClient n → IsValidEvent event → IsKept client_keeping n (client_step n event)
step_sound n event is valid = client_walk (IsKept client_keeping n) n event (keeping client_places client_keeping n event (client_keeps n event valid) valid is)

-- what a step gives is valid
pub step_valid : (n m : Node ClientState) (event : Event) (out : Step) → IsClient n → IsValidEvent event → turn_of m out ≡ client_step n event
    → IsValidStep out
step_valid n m event out is valid e = kept_valid client_keeping n (turn_of m out) (subst (IsKept client_keeping n) (sym e) (step_sound n event is valid))

pub fresh_sound : (cfg : Config) (me : NodeId) → IsValidConfig cfg → IsNodeOf cfg me → IsClient (fresh_node cfg me)
fresh_sound cfg me valid here = record {
  base = base_fresh cfg me valid here;
  own = record { bodies = tt; few = omega arith; acked = omega arith; home = home_small cfg (number_of me) valid; first = omega arith };
}

pub steps_are_valid : StepsAreValid
steps_are_valid cfg me events event valid here each next =
    let life = lives client_keeping client_step (fresh_node cfg me) events step_sound (fresh_sound cfg me valid here) tt each in
    kept_valid client_keeping _ _ (step_sound (life_of client_step (fresh_node cfg me) events).node event life.is next)

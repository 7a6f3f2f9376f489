-- A consumer at its start, after a restart, and as the items of its vault give it.
use Rattle.std.specs.Prelude.{List, []}
use Rattle.std.specs.List.{fold}
use Rattle.std.specs.Option.{option_map_or}
use Rattle.cut_core.specs.Map.{located}
use Rattle.spec_delivery.specs.Buffers.{without_records}
use Rattle.node_rules.specs.Names.{NodeId, Config, Record, Item}
use Rattle.node_rules.specs.Names.items
use Rattle.node_rules.specs.Nodes.{Node, fresh_base, reset_base, agreed_by, fit_known, with_own}
use Rattle.consumer_node.specs.Apps.{Meaning}
use Rattle.consumer_node.specs.States.{ConsumerState, fresh_consumer}
use Rattle.consumer_node.specs.Speculation.{with_confirmed}
use Rattle.consumer_node.specs.Rules.{close_gone}

abbrev pub fresh_node : {A : Type 0} → Meaning A → Config → NodeId → Node (ConsumerState A)
fresh_node app cfg me = record { base = fresh_base cfg me; own = fresh_consumer app cfg.app }

-- a confirmed record fits where the next position is covered
abbrev pub fit_confirmed : {A : Type 0} → Meaning A → Record → Node (ConsumerState A) → Node (ConsumerState A)
fit_confirmed app rec n = option_map_or (λ o. with_own (with_confirmed app rec o n.own) n) (located (agreed_by n.base) n.own.confirmed) n

-- one more item of the vault; one that doesn't fit is passed over
abbrev pub fit : {A : Type 0} → Meaning A → Node (ConsumerState A) → Item → Node (ConsumerState A)
fit app n (items.Known entry) = fit_known entry n
fit app n (items.Confirmed rec output) = fit_confirmed app rec n
fit app n _ = n

-- the shards that are gone end at their ends
abbrev pub closed_by : {A : Type 0} → Node (ConsumerState A) → Node (ConsumerState A)
closed_by n = with_own (close_gone (agreed_by n.base) n.own) n

-- what the items alone give
abbrev pub restart_of : {A : Type 0} → Meaning A → Config → NodeId → List Item → Node (ConsumerState A)
restart_of app cfg me stored = closed_by (fold (fit app) (fresh_node app cfg me) stored)

-- what a restart leaves: the known entries, what is confirmed, and the floors and ends of the shards
abbrev pub reset_own : {A : Type 0} → ConsumerState A → ConsumerState A
reset_own s = record s { lanes = without_records s.lanes; pending = [] }

abbrev pub reset_of : {A : Type 0} → Node (ConsumerState A) → Node (ConsumerState A)
reset_of n = record { base = reset_base n.base; own = reset_own n.own }

-- What holds of every life of a consumer, over any application.
use Rattle.std.specs.Prelude.{◌≤◌, List, length}
use Rattle.node_rules.specs.Names.{NodeId, Config, Record, Event}
use Rattle.node_rules.specs.Lives.{Life, life_of}
use Rattle.node_rules.specs.Lives as lives
use Rattle.consumer_node.specs.Apps.{Meaning, any_meaning}
use Rattle.consumer_node.specs.States.{ConsumerState}
use Rattle.consumer_node.specs.Steps.{consumer_step}
use Rattle.consumer_node.specs.Restart.{fresh_node, reset_of, restart_of}

abbrev pub consumer_life : {A : Type 0} → Meaning A → Config → NodeId → List Event → Life (ConsumerState A)
consumer_life app cfg me = life_of (consumer_step app) (fresh_node app cfg me)

-- a restart in place leaves what the stored items alone give
abbrev pub RestartIsTheItems : {A : Type 0} → Meaning A → Type 0
RestartIsTheItems app = lives.RestartIsTheItems (consumer_step app) (fresh_node app) reset_of (restart_of app)

-- what an application writes for a record has at most 64 bytes
abbrev pub OutputsFit : {A : Type 0} → Meaning A → Type 0
OutputsFit {A} app = (state : A) (rec : Record) → length (app.output state rec) ≤ 64

-- what a step stores and sends is valid
abbrev pub StepsAreValid : {A : Type 0} → Meaning A → Type 0
StepsAreValid app = OutputsFit app → lives.StepsAreValid (consumer_step app) (fresh_node app)

-- so of the application of any kind, after whatever records
abbrev pub AnyStepsAreValid : Type 0
AnyStepsAreValid = lives.StepsAreValid (consumer_step any_meaning) (fresh_node any_meaning)

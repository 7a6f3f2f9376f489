-- A node for tests: a tick asks the first sequencer, and whoever is asked answers by asking for one less.
use Rattle.std.specs.Prelude.{ℕ, zero, suc, nat_lt, Bool, if◌then◌else◌, [], ◌∷◌}
use Rattle.msg_wire.specs.declared.message.What.{What}
use Rattle.msg_wire.specs.declared.message.What.TheVariants as whats
use Rattle.msg_wire.specs.Names.nodes
use Rattle.msg_wire.specs.Steps.{empty_step}
use Rattle.net_model.specs.Names.{Event, NodeId, Step}
use Rattle.net_model.specs.Names.events

-- what a message asks for; most ask for none
abbrev pub wanted_of : What → ℕ
wanted_of (whats.Fill wanted) = wanted
wanted_of _ = 0

abbrev pub asks : NodeId → NodeId → ℕ → Step
asks from to wanted = record { stable = []; sends = record { from = from; to = to; what = whats.Fill wanted } ∷ []; marks = [] }

abbrev pub answers : NodeId → NodeId → ℕ → Step
answers from to zero = empty_step
answers from to (suc wanted) = asks from to wanted

-- a name that a message may have
abbrev pub is_named : NodeId → Bool
is_named (nodes.Seq number) = nat_lt number 5
is_named (nodes.Shard number side) = nat_lt number 6
is_named (nodes.Client number) = nat_lt number 6
is_named (nodes.Consumer number) = nat_lt number 4

abbrev pub toy_gives : NodeId → Event → Step
toy_gives name events.Tick = if is_named name then asks name (nodes.Seq 0) 2 else empty_step
toy_gives name (events.Deliver message) = answers message.to message.from (wanted_of message.what)
toy_gives name events.Restart = empty_step
toy_gives name (events.Submit by body) = empty_step
toy_gives name (events.Command command) = empty_step

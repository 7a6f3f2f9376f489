-- The inputs of a script: which of them a cluster can be given.
use Rattle.std.specs.Prelude.{ℕ, ◌<◌, List, length}
use Rattle.msg_wire.specs.Names.{Config, Input}
use Rattle.msg_wire.specs.Names.inputs
use Rattle.msg_wire.specs.Valid.{IsBody, IsNodeOf, IsSequencerOf, IsCommandOf}

-- the client, the node and the command's shards are the cluster's, a command stands at a sequencer, and the body is within its limit
abbrev pub IsInputOf : Config → Input → Type 0
IsInputOf c (inputs.Submit client body) = (client < length c.homes) × IsBody body
IsInputOf c (inputs.Deliver number) = Unit {0}
IsInputOf c (inputs.Lose number) = Unit {0}
IsInputOf c (inputs.Tick node) = IsNodeOf c node
IsInputOf c (inputs.Restart node) = IsNodeOf c node
IsInputOf c (inputs.Command node command) = IsSequencerOf c node × IsCommandOf c command
IsInputOf c (inputs.Drain count) = Unit {0}

-- What a Decided tells is known to its sender.
use Rattle.std.specs.Prelude.{Contains}
use Rattle.net_model.specs.Pasts.{Past, sent}
use Rattle.seq_node.specs.Messages.{IsTrueOf}
use Rattle.runs.specs.Names.{Config, Message}
use Rattle.runs.specs.Known.{known_at}

abbrev pub DecidedsAreKnown : Config → Past → Type 0
DecidedsAreKnown cfg past = (m : Message) → Contains (sent past) m → IsTrueOf (known_at cfg m.from past) m.what

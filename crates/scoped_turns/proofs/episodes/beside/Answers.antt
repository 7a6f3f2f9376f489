use denote.Param.Send.{sendable}
use Rattle.scoped_turns.proofs.episodes.beside.Goals as goal

pub scoped-requires : goal.scoped-requires
scoped-requires g c = record { at = λ scope. (c.requires.first, (c.requires.second, (c.requires.third, search sendable))) }

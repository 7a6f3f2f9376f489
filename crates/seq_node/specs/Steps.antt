-- A sequencer's step table: the turn of each event, rule after rule.
use Rattle.std.specs.Prelude.{Bool, true, false, ◌==◌, ◌&&◌, if◌then◌else◌}
use Rattle.msg_wire.specs.Nodes.{number_of}
use Rattle.node_rules.specs.Names.{NodeId, Event, What}
use Rattle.node_rules.specs.Names.events
use Rattle.node_rules.specs.Names.whats
use Rattle.node_rules.specs.Nodes.{Node}
use Rattle.node_rules.specs.Turns.{Turn, me_of, started}
use Rattle.node_rules.specs.Rules.{heed, decided}
use Rattle.seq_node.specs.States.{SequencerState}
use Rattle.seq_node.specs.Learning.{on_learned}
use Rattle.seq_node.specs.Attempts.{hear_promise, hear_acceptance}
use Rattle.seq_node.specs.Rules.{hear_learn, hear_prepare, hear_accept, hear_report, take_command, begin_if_free, on_tick}
use Rattle.seq_node.specs.Restart.{reset_of}

-- a message that is heeded; the other kinds go to other nodes
abbrev pub hear : NodeId → What → Turn SequencerState → Turn SequencerState
hear from (whats.Decided slot count entry) t = decided on_learned from slot count entry t
hear from (whats.Learn slot) t = hear_learn from slot t
hear from (whats.Report len) t = hear_report from len t
hear from (whats.Prepare slot ballot) t = hear_prepare from slot ballot t
hear from (whats.Accept slot ballot entry) t = hear_accept from slot ballot entry t
hear from (whats.Promise slot ballot report) t = hear_promise (number_of from) slot ballot report t
hear from (whats.Accepted slot ballot) t = hear_acceptance (number_of from) slot ballot t
hear from _ t = t

-- what an event does by itself; a restart is no such event
abbrev pub handle : Event → Turn SequencerState → Turn SequencerState
handle (events.Deliver message) t = heed hear message t
handle (events.Command command) t = take_command command t
handle events.Tick t = on_tick t
handle events.Restart t = t
handle (events.Submit by body) t = t

-- the end of a step begins, but for a command and a tick, which have begun by their own rules
abbrev pub ends_with_beginning : Event → Bool
ends_with_beginning (events.Deliver message) = true
ends_with_beginning (events.Submit by body) = true
ends_with_beginning (events.Command command) = false
ends_with_beginning events.Tick = false
ends_with_beginning events.Restart = false

-- the end of a step: sequencer 0 begins where no attempt stands
abbrev pub finish : Event → Turn SequencerState → Turn SequencerState
finish event t = if (number_of (me_of t) == 0) && ends_with_beginning event then begin_if_free t else t

-- the step of each event; each but a restart ends with a beginning where none was made
abbrev pub sequencer_step : Node SequencerState → Event → Turn SequencerState
sequencer_step n events.Restart = started (reset_of n)
sequencer_step n event = finish event (handle event (started n))

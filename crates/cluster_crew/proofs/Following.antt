-- What holds of a plan's lines one by one, and of what is left of them.
use Rattle.std.proofs.Common.{◌≡◌, ℕ, zero, suc, ◌+◌, ◌<◌, ◌≤◌, false, List}
use Rattle.std.proofs.Common.{[], ◌∷◌, drop, take, length, get_or, subst, arith, IsTrue}
use Rattle.msg_wire.specs.Names.nodes
use Rattle.msg_wire.specs.declared.event.Command.TheVariants as commands
use Rattle.msg_wire.specs.Nodes.{is_sequencer}
use Rattle.msg_wire.specs.Valid.{IsSequencerOf, IsCommandOf, IsValidCommand}
use Rattle.msg_wire.specs.declared.config.Config.{Config}
use Rattle.msg_wire.specs.declared.event.Command.{Command}
use Rattle.msg_wire.specs.declared.plan.PlanLine.{PlanLine}
use Rattle.net_model.specs.Names.{NodeId}
use Rattle.cluster_crew.specs.Crews.{HaveNoEpisode, is_episode}

pub sequencer_is : (c : Config) (n : NodeId) → IsSequencerOf c n → IsTrue (is_sequencer n)
sequencer_is c (nodes.Seq number) of = cc
sequencer_is c (nodes.Shard number side) of = absurd of
sequencer_is c (nodes.Client number) of = absurd of
sequencer_is c (nodes.Consumer number) of = absurd of

pub command_valid : (c : Config) (m : Command) → c.shards ≤ 6 → IsCommandOf c m → IsValidCommand m
command_valid c (commands.Table rounds rows) few of = (of.0, of.1.table)
command_valid c (commands.Remove shard) few of = omega (arith, few, of)

drop_suc : (lines : List PlanLine) (k : ℕ) (d : PlanLine) → k < length lines → is_episode (get_or lines k d) ≡ false → HaveNoEpisode (drop (suc k) lines)
    → HaveNoEpisode (drop k lines)
drop_suc [] k d within isnt rest = absurd (omega (arith, within))
drop_suc (x ∷ lines) zero d within isnt rest = (isnt, rest)
drop_suc (x ∷ lines) (suc k) d within isnt rest = drop_suc lines k d (omega (arith, within)) isnt rest

-- where a line is no episode, and none is after it
pub drop_none : (lines : List PlanLine) (k : ℕ) (d : PlanLine) → k < length lines → is_episode (get_or lines k d) ≡ false → HaveNoEpisode (drop (k + 1) lines)
    → HaveNoEpisode (drop k lines)
drop_none lines k d within isnt rest =
    let next : k + 1 ≡ suc k = omega arith in drop_suc lines k d within isnt (subst (λ n. HaveNoEpisode (drop n lines)) next rest)

pub drop_all : (lines : List PlanLine) → HaveNoEpisode (drop (length lines) lines)
drop_all [] = tt
drop_all (x ∷ lines) = drop_all lines

pub taken_none : (n : ℕ) (lines : List PlanLine) → HaveNoEpisode lines → HaveNoEpisode (take n lines)
taken_none zero lines none = tt
taken_none (suc n) [] none = tt
taken_none (suc n) (x ∷ lines) none = (none.0, taken_none n lines none.1)

-- What a client has: its submissions, how many of them are acknowledged, its home, and the first number that it sends there.
use Rattle.std.specs.Prelude.{ℕ, ◌+◌, Bool, ◌&&◌, nat_lt, nat_le, is_some, List, [], length}
use Rattle.std.specs.List.{range_with_len}
use Rattle.cut_core.specs.Map.{gone_end}
use Rattle.msg_wire.specs.Nodes.{replicas_of}
use Rattle.node_rules.specs.Names.{NodeId}
use Rattle.node_rules.specs.Turns.{Turn, own_of, agreed}

pub record ClientState : Type 0 where
  pub bodies : List (List ℕ)
  pub acked : ℕ
  pub home : ℕ
  pub first : ℕ

-- at a home, with nothing submitted
abbrev pub fresh_client : ℕ → ClientState
fresh_client home = record { bodies = []; acked = 0; home = home; first = 0 }

-- ---- what a turn's client has

-- how many bodies were submitted: the number of the next one
abbrev pub count_submitted : Turn ClientState → ℕ
count_submitted t = length (own_of t).bodies

-- both replicas of its home
abbrev pub home_replicas : Turn ClientState → List NodeId
home_replicas t = replicas_of (own_of t).home

-- the known entries say that its home is gone
abbrev pub is_home_gone : Turn ClientState → Bool
is_home_gone t = is_some (gone_end (agreed t) (own_of t).home)

-- how many numbers from the acknowledged count on a client sends
unfoldable pub reach : ℕ
reach = 8

-- a number is one of these
abbrev pub is_in_reach : ℕ → Turn ClientState → Bool
is_in_reach number t = nat_le (own_of t).acked number && nat_lt number ((own_of t).acked + reach)

-- all of them, rising
abbrev pub numbers_in_reach : Turn ClientState → List ℕ
numbers_in_reach t = range_with_len (own_of t).acked reach

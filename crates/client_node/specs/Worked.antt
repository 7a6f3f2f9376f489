-- Worked steps of a client.
use Rattle.std.specs.Prelude.{◌≡◌, ℕ, List, [], ◌∷◌}
use Rattle.node_rules.specs.Names.entries
use Rattle.node_rules.specs.Names.events
use Rattle.node_rules.specs.Names.items
use Rattle.node_rules.specs.Names.marks
use Rattle.node_rules.specs.Names.whats
use Rattle.node_rules.specs.Turns.{Turn, step_of}
use Rattle.node_rules.specs.Examples.{pair, q0, s0p, s0b, s1p, c0, comes, sent, step, nothing}
use Rattle.client_node.specs.States.{ClientState}
use Rattle.client_node.specs.Steps.{client_step}
use Rattle.client_node.specs.Restart.{fresh_node, restart_of}

abbrev body : List ℕ
body = 53 ∷ []

-- a body is submitted, its home is removed, and the client moves to the shard that is left
abbrev submitted : Turn ClientState
submitted = client_step (fresh_node pair c0) (events.Submit 0 body)

abbrev home_gone : Turn ClientState
home_gone = client_step submitted.state (comes q0 c0 (whats.Decided 0 1 (entries.Remove 0 0)))

abbrev moved : Turn ClientState
moved = client_step home_gone.state (comes s0b c0 (whats.Fate 0))

abbrev acked : Turn ClientState
acked = client_step moved.state (comes s1p c0 (whats.Ack 0 3))

-- the ninth body waits for the first acknowledgement
abbrev submit_again : Turn ClientState → Turn ClientState
submit_again t = client_step t.state (events.Submit 0 body)

abbrev eight : Turn ClientState
eight = submit_again (submit_again (submit_again (submit_again (submit_again (submit_again (submit_again submitted))))))

pub record Worked : Type 0 where
  pub submission_is_sent : step_of submitted ≡ step (items.Submitted body ∷ []) (sent c0 s0p (whats.Append 0 0 body) ∷ []) []
  pub ninth_waits : step_of (submit_again eight) ≡ step (items.Submitted body ∷ []) [] []
  pub ninth_follows : step_of (client_step (submit_again eight).state (comes s0p c0 (whats.Ack 0 0))) ≡ step (items.Acked ∷ []) (sent c0 s0p (whats.Append 0 8 body) ∷ []) (marks.Ack 0 0 ∷ [])
  pub tick_sends_again : step_of (client_step submitted.state events.Tick) ≡ step [] (sent c0 q0 (whats.Learn 0) ∷ sent c0 s0p (whats.Append 0 0 body) ∷ []) []
  -- silence is no reason to move, nor is a fate before the home is known to be gone
  pub early_fate_is_left : step_of (client_step submitted.state (comes s0b c0 (whats.Fate 0))) ≡ nothing
  pub fate_is_asked : step_of home_gone ≡ step (items.Known (entries.Remove 0 0) ∷ []) (sent c0 s0p (whats.AskFate 0 0) ∷ sent c0 s0b (whats.AskFate 0 0) ∷ []) []
  pub other_number_is_left : step_of (client_step home_gone.state (comes s0b c0 (whats.Fate 1))) ≡ nothing
  pub other_shard_is_left : step_of (client_step home_gone.state (comes s1p c0 (whats.Fate 0))) ≡ nothing
  pub client_moves : step_of moved ≡ step (items.Moved 1 0 ∷ []) (sent c0 s1p (whats.Append 0 0 body) ∷ []) []
  pub fate_counts_once : step_of (client_step moved.state (comes s0b c0 (whats.Fate 0))) ≡ nothing
  pub ack_is_marked : step_of acked ≡ step (items.Acked ∷ []) [] (marks.Ack 0 3 ∷ [])
  pub ack_counts_once : step_of (client_step acked.state (comes s1p c0 (whats.Ack 0 3))) ≡ nothing
  -- restarts
  pub restart_is_the_items : (client_step acked.state events.Restart).state ≡ restart_of pair c0 (items.Submitted body ∷ items.Known (entries.Remove 0 0) ∷ items.Moved 1 0 ∷ items.Noops 3 ∷ items.Acked ∷ [])
  pub restart_shows_nothing : step_of (client_step acked.state events.Restart) ≡ nothing

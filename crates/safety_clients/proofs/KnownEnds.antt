-- What nodes know begins the agreed list, which grows at its end; so a gone shard has one end in all that is known, and logs reach it.
use Rattle.std.proofs.Common.{◌≡◌, ◌∙◌, ℕ, ◌≤◌, List, length, Some, sym, subst, arith}
use Rattle.std.proofs.lemmas.Option.{same_Some}
use Rattle.cut_core.specs.Map.{gone_end, covered_locals}
use Rattle.msg_wire.specs.Valid.{IsValidConfig}
use Rattle.net_model.specs.Pasts.{Past}
use Rattle.runs.specs.Names.{NodeId, Config, Entry}
use Rattle.runs.specs.Names.nodes
use Rattle.runs.specs.Runs.{IsPastOf}
use Rattle.runs.specs.Known.{agreed_after, agreed_at, known_at, held_log}
use Rattle.runs.specs.Logs.{BothReach}
use Rattle.runs.specs.Maps.{WasKnown}
use Rattle.safety_frame.specs.AgreedList.{agreed_list}
use Rattle.safety_frame.proofs.Known.{agreed_is_longest}
use Rattle.safety_frame.proofs.Lists.{begins_itself}
use Rattle.safety_logs.proofs.CoveredLogs.{covered_is_held, covered_is_common}
use Rattle.safety_logs.proofs.AgreedLists.{agreed_begins}
use Rattle.safety_clients.proofs.Fronts.{ended, ended_gone, continues}

module _ (cfg : Config) (valid : IsValidConfig cfg) (past : Past) (run : IsPastOf cfg past) where
  pub agreed_known : WasKnown cfg past (agreed_list cfg past)
  agreed_known = let was = (agreed_is_longest cfg past run).was_known in (nodes.Seq was.0, was.1)

  pub same_end : (node : NodeId) (shard end other : ℕ) → gone_end (agreed_at cfg node past) shard ≡ Some end
      → gone_end (agreed_after cfg (agreed_list cfg past)) shard ≡ Some other
      → end ≡ other
  same_end node shard end other here there =
      let on = continues cfg valid past run (known_at cfg node past) (agreed_list cfg past) (agreed_begins cfg valid past run node) agreed_known in
      same_Some end other (sym (on.gone_stay shard end here) ∙ there)

  pub end_is : (known : List Entry) → WasKnown cfg past known → (shard end : ℕ) → gone_end (agreed_after cfg known) shard ≡ Some end
      → end ≡ covered_locals (agreed_after cfg known) shard
  end_is known was shard end at =
      same_Some end _ (sym at ∙ ended cfg valid past run known was shard (ended_gone (agreed_after cfg known) shard end at))

  -- both logs reach the end of a gone shard
  pub end_reached : (known : List Entry) → WasKnown cfg past known → (shard end : ℕ)
      → gone_end (agreed_after cfg known) shard ≡ Some end → BothReach cfg past shard end
  end_reached known was shard end at =
      let whole = known_at cfg was.0 past in
      let later = (continues cfg valid past run known whole was.1 (was.0, begins_itself whole)).gone_stay shard end at in
      subst (BothReach cfg past shard) (sym (end_is whole (was.0, begins_itself whole) shard end later)) (covered_is_held cfg past valid run was.0 shard)

  -- and so does the log that counts, of a shard that is gone by the agreed list, or by what a node knows
  pub end_held : (shard end : ℕ) → gone_end (agreed_after cfg (agreed_list cfg past)) shard ≡ Some end → end ≤ length (held_log cfg shard past)
  end_held shard end at =
      omega (
        arith,
        end_is (agreed_list cfg past) agreed_known shard end at,
        (covered_is_common cfg past valid run shard).within,
      )

  pub known_end_held : (node : NodeId) (shard end : ℕ) → gone_end (agreed_at cfg node past) shard ≡ Some end → end ≤ length (held_log cfg shard past)
  known_end_held node shard end at =
      end_held shard end
      ((continues cfg valid past run (known_at cfg node past) (agreed_list cfg past) (agreed_begins cfg valid past run node) agreed_known).gone_stay
      shard end at)

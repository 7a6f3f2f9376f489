-- What is confirmed stands at a covered position of the agreed list: what a node knew to be covered keeps its owner.
use Rattle.std.proofs.Common.{◌∙◌, ℕ, List, sym, subst, arith}
use Rattle.std.proofs.lemmas.Option.{slice_get_within}
use Rattle.cut_core.specs.Agreements.{Agreement}
use Rattle.cut_core.specs.Consistency.{IsContinuedBy}
use Rattle.cut_core.proofs.Parts.{mapped_covered}
use Rattle.msg_wire.specs.Valid.{IsValidConfig}
use Rattle.net_model.specs.Pasts.{Past}
use Rattle.runs.specs.Names.{Config, Entry, Record}
use Rattle.runs.specs.Names.nodes
use Rattle.runs.specs.Runs.{IsPastOf}
use Rattle.runs.specs.Known.{agreed_after, known_at}
use Rattle.runs.specs.Maps.{WasKnown}
use Rattle.runs.specs.Marks.{confirmed_list}
use Rattle.safety_frame.specs.AgreedList.{agreed_list}
use Rattle.safety_frame.proofs.Lists.{begins_itself, begins_on}
use Rattle.safety_consumers.specs.Owned.{held_logs, IsOwned, IsSettled}
use Rattle.safety_consumers.proofs.Covered.{confirmed_is_covered}
use Rattle.safety_consumers.proofs.Settled.{confirmed_is_the_prefix}
use Rattle.safety_clients.specs.Numbers.{StandsAt, AreCovered}
use Rattle.safety_logs.proofs.AgreedLists.{agreed_begins}
use Rattle.safety_clients.proofs.KnownEnds.{agreed_known}
use Rattle.safety_clients.proofs.Fronts.{continues}

-- the record of a covered position stands there after more entries
stands_on : (cfg : Config) (past : Past) (before : Agreement) → IsContinuedBy before (agreed_after cfg (agreed_list cfg past)) → (position : ℕ) (rec : Record)
    → IsSettled (held_logs cfg past) before position rec
    → StandsAt cfg past position rec
stands_on cfg past before on position rec is =
    let still = on.covered_agree position is.covered in
    record {
      owner = is.owned.owner;
      covered = sym (mapped_covered (agreed_after cfg (agreed_list cfg past)) position still.0) ∙ (still.1 ∙ is.owned.there);
      held = is.owned.stands;
    }

module _ (cfg : Config) (valid : IsValidConfig cfg) (past : Past) (run : IsPastOf cfg past) where
  pub settled_stands : (known : List Entry) → WasKnown cfg past known → (position : ℕ) (rec : Record)
      → IsSettled (held_logs cfg past) (agreed_after cfg known) position rec
      → StandsAt cfg past position rec
  settled_stands known was position rec is =
      let begins = begins_on known (known_at cfg was.0 past) (agreed_list cfg past) was.1 (agreed_begins cfg valid past run was.0) in
      stands_on cfg past (agreed_after cfg known) (continues cfg valid past run known (agreed_list cfg past) begins (agreed_known cfg valid past run)) position
      rec is

  -- a consumer's confirmed list is of the first covered positions
  pub confirmed_covered : (consumer : ℕ) → AreCovered cfg past (confirmed_list consumer past)
  confirmed_covered consumer position rec at =
      let node = nodes.Consumer consumer in
      let known = known_at cfg node past in
      let within = slice_get_within (confirmed_list consumer past) position rec at in
      settled_stands known (node, begins_itself known) position rec
      (record {
        covered = omega (arith, within, confirmed_is_covered cfg past valid run consumer);
        owned = subst (IsOwned (held_logs cfg past) (agreed_after cfg known) position) at (confirmed_is_the_prefix cfg past valid run consumer position within);
      })

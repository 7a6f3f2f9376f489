-- Over all nodes: a ballot of a slot has one value, accepted or offered, since nodes outside the cluster store nothing.
use Rattle.std.proofs.Common.{ℕ, ◌%◌, inl, inr, refl}
use Rattle.msg_wire.specs.Valid.{IsValidConfig}
use Rattle.net_model.specs.Pasts.{Past}
use Rattle.runs.specs.Names.{Config, Entry}
use Rattle.runs.specs.Names.nodes
use Rattle.runs.specs.Names.items
use Rattle.runs.specs.Names.whats
use Rattle.runs.specs.Runs.{IsPastOf}
use Rattle.runs.specs.Chosen.{HasAccepted}
use Rattle.runs.specs.Agreement.{IsValueAt, OneValuePerBallot}
use Rattle.safety_frame.specs.EveryRun.{OfEveryRun}
use Rattle.safety_frame.proofs.Pasts.{stores_within}
use Rattle.safety_agreement.proofs.Reading.{owner_below}
use Rattle.safety_agreement.proofs.Votes.{one_vote_per_ballot, owners_voted}

-- a value of a ballot is what its owner voted
owner_voted_it : (cfg : Config) (past : Past) → IsValidConfig cfg → IsPastOf cfg past → (slot ballot : ℕ) (value : Entry) → IsValueAt cfg past slot ballot value
    → HasAccepted cfg past slot ballot value (ballot % cfg.seqs)
owner_voted_it cfg past valid run slot ballot value is = elim is [
  | inl voted ↦
      (owners_voted cfg past valid run).votes slot ballot voted.0 value
      (stores_within cfg (nodes.Seq voted.0) (items.Accepted slot ballot value) past run voted.1) voted.1
  | inr offered ↦
      (owners_voted cfg past valid run).asked (record { from = offered.0; to = offered.1; what = whats.Accept slot ballot value }) slot ballot value offered.2 refl
]

pub one_value_per_ballot : OfEveryRun OneValuePerBallot
one_value_per_ballot cfg past valid run slot ballot value other is was =
    one_vote_per_ballot cfg past valid run slot ballot (ballot % cfg.seqs) value other (owner_below cfg valid ballot)
    (owner_voted_it cfg past valid run slot ballot value is) (owner_voted_it cfg past valid run slot ballot other was)

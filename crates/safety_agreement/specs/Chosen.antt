-- The list that is agreed on: the longest that a sequencer knows. It is chosen, slot by slot, and what any node knows begins it.
use Rattle.net_model.specs.Pasts.{Past}
use Rattle.runs.specs.Names.{Config}
use Rattle.runs.specs.Chosen.{IsAgreed}
use Rattle.safety_frame.specs.AgreedList.{agreed_list}

abbrev pub AgreedIsChosen : Config → Past → Type 0
AgreedIsChosen cfg past = IsAgreed cfg past (agreed_list cfg past)

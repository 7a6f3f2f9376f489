-- What a contract sees of the two ends of a link.
use Rattle.std.specs.Prelude.{ℕ, ◌-◌, List, ◌++◌, length, take}
use denote.RawPtr.{Ptr}
use Rattle.rtrb.specs.Shared.{Names}
use Rattle.rtrb.specs.declared.end.End.{End}
use Rattle.node_links.specs.declared.frame.Frame.{Frame}

-- Which link an end belongs to: the two ends of one link have the same name.
pub record LinkName : Type 0 where
  pub words : Ptr
  pub slots : Ptr
  pub names : Names

-- the sending end
pub record Sending : Type 0 where
  pub link : LinkName
  pub free : ℕ  -- slots of the ring that this end knows to be free
  pub pushed : List Frame  -- went into the ring
  pub waiting : List Frame  -- was queued, and is not yet in the ring

-- the receiving end
pub record Receiving : Type 0 where
  pub link : LinkName
  pub received : List Frame  -- was pulled
  pub waiting : List Frame  -- waits here, as far as this end knows

-- all frames that were queued, the oldest first
abbrev pub queued : Sending → List Frame
queued s = s.pushed ++ s.waiting

abbrev pub link_of : {T A P : Type 0} → End T A P → LinkName
link_of e = record { words = e.words; slots = e.slots; names = e.names }

-- all but what lies beside at the end
abbrev pub gone_on : {T : Type 0} → List T → List T → List T
gone_on all beside = take (length all - length beside) all

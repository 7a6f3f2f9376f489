-- The faults of a link: its words, what is held, and what a message makes of the two.
use Rattle.std.specs.Prelude.{◌≡◌, ◌⊎◌, ℕ, ◌+◌, ◌-◌, ◌*◌, List, [], ◌∷◌, ◌++◌, length, take, Option, Some, None}
use Rattle.std.specs.List.{AllByRecursion}
use Rattle.rand_core.specs.Pcg32Seed.{pcg32_seed}
use Rattle.rand_pcg.specs.Lcg.{Lcg}
use Rattle.rand_pcg.specs.Pcg.{pcg32, pcg32_of_seed}
use Rattle.node_links.specs.declared.frame.Frame.{Frame}
use Rattle.link_faults.specs.Fates.{FaultPlan, Fate, fate_of}
use Rattle.link_faults.specs.Fates.fates

-- what a contract sees of the faults of a link
pub record Holding : Type 0 where
  pub words : Lcg  -- the generator of the link's words
  pub held : Option Frame

-- ---- words

-- the words of the link from the node at one place to the one at another, by the seed of the plan
abbrev pub words_of : ℕ → ℕ → ℕ → Lcg
words_of seed from to = pcg32_of_seed (pcg32_seed 16 (seed * 1024 + 32 * from + to))

abbrev pub after_word : Lcg → Lcg
after_word words = (pcg32 words).1

-- what the next word says
abbrev pub next_fate : FaultPlan → Holding → Fate
next_fate plan h = fate_of plan (pcg32 h.words).0

-- ---- one message

-- without its last byte
abbrev pub cut_frame : Frame → Frame
cut_frame f = record { stamp = f.stamp; bytes = take (length f.bytes - 1) f.bytes }

abbrev pub held_frames : Option Frame → List Frame
held_frames None = []
held_frames (Some f) = f ∷ []

-- how often it is queued
abbrev pub queued_by : Fate → Frame → List Frame
queued_by fates.Lost f = []
queued_by fates.Twice f = f ∷ f ∷ []
queued_by fates.Late f = []
queued_by fates.Cut f = cut_frame f ∷ []
queued_by fates.Once f = f ∷ []

-- what is held after it
abbrev pub held_by : Fate → Frame → Option Frame
held_by fates.Lost f = None
held_by fates.Twice f = None
held_by fates.Late f = Some f
held_by fates.Cut f = None
held_by fates.Once f = None

-- what a message brings to the link: itself, by its fate, and then the frame that was held
abbrev pub what_is_queued : Fate → Frame → Option Frame → List Frame
what_is_queued fate f held = queued_by fate f ++ held_frames held

-- a beginning of these was queued
pub record IsBegun (before after these : List Frame) : Type 0 where
  pub more : List Frame
  pub rest : List Frame
  pub added : after ≡ before ++ more
  pub begins : these ≡ more ++ rest

-- ---- where frames come from

-- it is one of these
abbrev pub IsAmong : List Frame → Frame → Type 0
IsAmong [] f = ⊥
IsAmong (x ∷ xs) f = (f ≡ x) ⊎ IsAmong xs f

-- each is one of these, so what holds of these holds of each
abbrev pub AreAmong : List Frame → List Frame → Type 0
AreAmong these = AllByRecursion (IsAmong these)

-- all that a message can bring to a link: what is queued there, what is held, and the message, whole or cut
abbrev pub all_before : List Frame → Option Frame → Frame → List Frame
all_before before held f = before ++ (held_frames held ++ (f ∷ cut_frame f ∷ []))

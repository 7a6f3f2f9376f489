-- What is so of every submitter.
use Rattle.std.specs.Prelude.{◌≡◌, ℕ, ◌+◌, ◌^◌, ◌<◌, length}
use Rattle.submit_desk.specs.declared.knows.Knows.{Knows}
use Rattle.submit_desk.specs.Passes.{submitter}
use Rattle.cluster_users.specs.Submitting.{AreItemsOf}

-- its pass knows what it has submitted, which it has counted; and all its bodies can be counted
abbrev pub IsSubmitter : ℕ → Knows → ℕ → ℕ → Type 0
IsSubmitter by knows count held = (knows ≡ submitter by knows.put) × AreItemsOf by knows.put × (count ≡ length knows.put) × (count + held < 2 ^ 64)

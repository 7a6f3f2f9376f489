-- An actor in a thread: what is owed of it, and what came back.
use Rattle.std.specs.Prelude.{◌≡◌, ℕ}
use Rattle.scoped_turns.specs.declared.started.Turns.{Turns}
use Rattle.scoped_turns.specs.declared.started.Started.{Started}
use Rattle.scoped_turns.specs.declared.started.Started.TheVariants as starts

-- a thread promised what so many turns make of this actor; or they were taken
abbrev pub IsOwed : {E A : Type 0} → (E → ℕ → A → A → Type 0) → E → ℕ → A → Started A (Turns E A) → Type 0
IsOwed Took env turns before (starts.There handle) =
    (handle.promise.env.value ≡ env) × (handle.promise.turns ≡ turns) × (handle.promise.before.value ≡ before)
IsOwed Took env turns before (starts.Here after) = Took env turns before after

-- what a thread promised is kept; what was at hand came back
abbrev pub Keeps : {A P : Type 0} → (P → A → Type 0) → Started A P → A → Type 0
Keeps Kept (starts.There handle) after = Kept handle.promise after
Keeps Kept (starts.Here actor) after = after ≡ actor

-- the fact that a thread promises
abbrev pub promised : {E A : Type 0} → (E → ℕ → A → A → Type 0) → Turns E A → A → Type 0
promised Took p after = Took p.env.value p.turns p.before.value after

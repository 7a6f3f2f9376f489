-- When a script is certain to be played, and a plan to be run.
use Rattle.std.specs.Prelude.{◌≡◌, ◌⊎◌, ℕ, ◌≤◌, List, [], ◌∷◌, length, Option, Some, None, codes}
use Rattle.script_text.specs.Names.{Config, Input, Plan}
use Rattle.script_text.specs.Plans.{SpellsPlan}
use Rattle.script_text.specs.Scripts.{SpellsScript}
use Rattle.spec_base.specs.declared.node.NodeId.{NodeId}
use Rattle.world.specs.Playing.{play_fault}
use Rattle.speclog.specs.declared.fault.Fault.{Fault}
use Rattle.speclog.specs.declared.fault.Fault.TheVariants.{OutOfMemory, ShelfFault}

-- the word `play`; a source that holds a text that is not too long and spells a script, each of whose inputs can be played; and
-- no count of faults rose: then the script was played and its report is out, unless memory was refused
abbrev pub IsPlayedWhole : List (List ℕ) → Option (List ℕ) → Option Fault → Type 0 → Type 0 → Type 0
IsPlayedWhole words left fault source_rose sink_rose =
    (text : List ℕ) (cfg : Config) (inputs : List Input) (numbers : List ℕ) →
    words ≡ (codes "play" ∷ []) → left ≡ Some text → length text ≤ 16777216 → SpellsScript text cfg inputs numbers → play_fault cfg inputs ≡ None →
    (source_rose → ⊥) → (sink_rose → ⊥) → (fault ≡ None) ⊎ (fault ≡ Some OutOfMemory)

-- the word `run`; a source that holds a text that is not too long and spells a plan; and no count of faults of the source or the sink rose: then the
-- plan was run and its summary is out, unless a disk failed or memory was refused
abbrev pub IsRunWhole : List (List ℕ) → Option (List ℕ) → Option Fault → Type 0 → Type 0 → Type 0
IsRunWhole words left fault source_rose sink_rose =
    (text : List ℕ) (plan : Plan) →
    words ≡ (codes "run" ∷ []) → left ≡ Some text → length text ≤ 16777216 → SpellsPlan text plan →
    (source_rose → ⊥) → (sink_rose → ⊥) → (fault ≡ None) ⊎ (fault ≡ Some OutOfMemory) ⊎ ((name : NodeId) × (fault ≡ Some (ShelfFault name)))

-- Frames that leave the ring and lie beside it until they are pulled.
use Rattle.std.specs.Prelude.{◌≡◌, List, ◌++◌}

-- what came out lies beside, behind what lay there
abbrev pub Passes : {T : Type 0} → List T → List T → List T → List T → Type 0
Passes {T} all beside all' beside' = (gone : List T) → all ≡ gone ++ beside → all' ≡ gone ++ beside'

-- The laws of all runs, and what is shown of some: import from here.
pub use Rattle.runs.specs.Names.{Config}
pub use Rattle.runs.specs.Runs.{IsRun}
pub use Rattle.runs.specs.Safety.{IsSafe}
pub use Rattle.runs.specs.Cuts.{CutsAreTrue}
pub use Rattle.runs.specs.Eagerness.{IsEager}
pub use Rattle.runs.specs.Chosen.{OneIsChosen, KnownIsChosen}
pub use Rattle.runs.specs.Speculating.{SpeculationAgrees, UnnoticedFollows}
pub use Rattle.runs.specs.Journals.{MergesAreRuns}
pub use Rattle.runs.specs.FirstSteps.{FirstSteps}
pub use Rattle.runs.specs.WorkedRuns.{PremisesAreMet}

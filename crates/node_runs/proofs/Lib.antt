pub mod NodeRuns
pub mod SeatedRuns

pub mod Going
pub mod Keeping
pub mod LaneLemmas
pub mod Loading
pub mod Moving
pub mod Pulling
pub mod Results
pub mod Turning

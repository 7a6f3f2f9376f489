pub mod Again
pub mod FrameBytes
pub mod FrameReads
pub mod Moments
pub mod ReadLemmas
pub mod Standing

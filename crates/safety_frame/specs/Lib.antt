pub mod EveryRun
pub mod Sound
pub mod Gathered
pub mod StableItems
pub mod Steps
pub mod AgreedList
pub mod Replicates
pub mod Heeded

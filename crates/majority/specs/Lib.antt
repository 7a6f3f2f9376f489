pub mod Ballots
pub mod Acceptors
pub mod Proposers
pub mod Votes
pub mod Journals
pub mod Slot
pub mod Agreement

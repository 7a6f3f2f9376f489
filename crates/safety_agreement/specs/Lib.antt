pub mod Acceptors
pub mod Owners
pub mod Votes
pub mod Attempts
pub mod Decideds
pub mod Heard
pub mod Chosen

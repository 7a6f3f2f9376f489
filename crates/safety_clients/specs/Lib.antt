pub mod Homes
pub mod Telling
pub mod Records
pub mod Fates
pub mod Acks
pub mod Numbers
pub mod Answers

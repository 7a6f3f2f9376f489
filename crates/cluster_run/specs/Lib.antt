pub mod Answers
pub mod Beginning
pub mod Running

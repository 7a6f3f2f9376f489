pub mod States
pub mod Sound
pub mod Rules
pub mod Steps
pub mod Restart
pub mod Laws
pub mod Worked

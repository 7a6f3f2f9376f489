pub mod Records
pub mod ShardLog
pub mod Calls
pub mod inside

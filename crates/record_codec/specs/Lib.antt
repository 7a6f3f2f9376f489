pub mod Decimals
pub mod Fields
pub mod Records
pub mod Entries
pub mod Reading
pub mod Decoding
pub mod inside

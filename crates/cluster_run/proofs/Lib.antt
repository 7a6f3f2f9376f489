pub mod AllNames
pub mod Distinct
pub mod Draining
pub mod Faults
pub mod Returned
pub mod Seated
pub mod Shelved
pub mod UsersFit

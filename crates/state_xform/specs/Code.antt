-- Definitions that mirror the code.
pub mod AllNames
pub mod Covered
pub mod NameSets
pub mod Walk

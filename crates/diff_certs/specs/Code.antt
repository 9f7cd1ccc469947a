-- Definitions that mirror the code.
pub mod Distances
pub mod Walks

-- Definitions that mirror the code.
pub mod Stages

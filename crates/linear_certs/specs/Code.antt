-- Definitions that mirror the code.
pub mod Building
pub mod Limits

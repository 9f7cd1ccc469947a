-- Definitions that mirror the code.
pub mod Seen
pub mod StatementReading

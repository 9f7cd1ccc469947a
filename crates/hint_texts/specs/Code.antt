-- Definitions that mirror the code.
pub mod Runs
pub mod Lexing
pub mod Reading

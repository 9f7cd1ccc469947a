-- Definitions that mirror the code.
pub mod Lexing
pub mod Reading
pub mod Seen
pub mod Whole
pub mod Writing

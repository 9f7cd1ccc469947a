-- Definitions that mirror the code.
pub mod After

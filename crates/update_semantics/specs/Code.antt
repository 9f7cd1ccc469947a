-- Definitions that mirror the code.
pub mod Cells
pub mod Decisions
pub mod Environments
pub mod Tables

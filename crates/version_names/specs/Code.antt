-- Definitions that mirror the code.
pub mod Declarations
pub mod Statuses
pub mod Tables

-- Definitions that mirror the code.
pub mod SumRows
pub mod Steps
pub mod Comparisons
pub mod Combined
pub mod Parts
pub mod Exchanging
pub mod Finding
pub mod Truths
pub mod Closing
pub mod Made
pub mod Branches
pub mod Rounding

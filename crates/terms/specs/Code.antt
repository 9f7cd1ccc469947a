-- Definitions that mirror the code, and laws that the types need to be compared and seen as trees.
pub mod NodeLaws
pub mod SymbolLaws
pub mod EqualityLaws
pub mod Operands
pub mod Rewriting
pub mod Operations
pub mod Occurrences

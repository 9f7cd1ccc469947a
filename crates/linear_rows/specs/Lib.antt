pub mod Numbers
pub mod Sums
pub mod Added
pub mod Combinations

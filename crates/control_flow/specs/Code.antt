-- What mirrors the code.
pub mod Counting
pub mod Adding

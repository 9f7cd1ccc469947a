-- What mirrors the code.
pub mod Growing
pub mod Edges
pub mod Waiting
pub mod Functions
pub mod Whole

pub mod KindedValues
pub mod Arithmetic
pub mod TrueConditions
pub mod Operators
pub mod Evaluated
pub mod CandidateLaws

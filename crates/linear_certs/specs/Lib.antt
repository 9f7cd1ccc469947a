pub mod Divisors
pub mod Stages
pub mod Wide
pub mod Points
pub mod Answers
pub mod Code

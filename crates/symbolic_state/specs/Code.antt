-- What the code's tables stand for, and all steps at once.
pub mod Bindings
pub mod Joined
pub mod Room
pub mod Values
pub mod Writing

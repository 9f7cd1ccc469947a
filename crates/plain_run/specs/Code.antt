-- Definitions that mirror the code.
pub mod Actions
pub mod Arithmetic
pub mod Calls
pub mod Frames
pub mod Names
pub mod Performed
pub mod Scopes
pub mod SeenActions
pub mod Stored
pub mod Tables

pub mod Conditions
pub mod TypedText
pub mod Worlds
pub mod Seen
pub mod Code

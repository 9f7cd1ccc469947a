pub mod Reached
pub mod Closes
pub mod Replays
pub mod Code

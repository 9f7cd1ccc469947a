pub mod Nodes
pub mod Steps
pub mod Kept
pub mod Seen
pub mod Code
